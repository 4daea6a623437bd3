-- A line says an event exactly where it is that event's line.
use Rattle.std.proofs.Common.{◌≡◌, ℕ, ◌<◌, ◌≤◌, Bool, true, leb, List, [], ◌∷◌, length, Some, lit≤, refl, sym, ap, ◌∙◌, arith}
use Rattle.std.specs.Prelude.{codes}
use Rattle.std.specs.List.{list_all}
use Rattle.std.proofs.lemmas.Bool.{leb-true}
use Rattle.mesh_gen.specs.declared.port.Port.{Port}
use Rattle.mesh_gen.specs.declared.port.Port.TheVariants.{L, E, W, N, S}
use Rattle.report_text.specs.declared.event.Event.{Event}
use Rattle.report_text.specs.declared.event.Event.TheVariants.{Tick, Core, Inject, Post, Take, Eject, Send, Hop, DataHop, DataEject}
use Rattle.report_text.specs.declared.operands.Operands.{Operands}
use Rattle.report_text.specs.declared.operands.Operands.TheVariants.{Nothing, Tile, Channel, Way}
use Rattle.report_text.specs.Events.{event_form, port_word, operand_words, event_words, IsWithinLimits}
use Rattle.report_text.specs.Lines.{joined_words}
use Rattle.report_text.specs.Report.{event_line}
use Rattle.report_text.specs.Scanning.{words_of, event_said}
use Rattle.report_text.proofs.Numbers.{and_true-left, and_true-right}
use Rattle.report_text.proofs.Said.{event_said-event_words, event_words-event_said}
use Rattle.report_text.proofs.Words.{IsPlain, ArePlain, decimal-plain, words_of-joined_words, joined_words-words_of}

abbrev pub is_plain : List ℕ → Bool
is_plain word = list_all (λ byte. leb 33 byte) word

pub plain-from_test : (word : List ℕ) → is_plain word ≡ true → IsPlain word
plain-from_test [] e = tt
plain-from_test (byte ∷ word) e = (leb-true 33 byte (and_true-left _ _ e), plain-from_test word (and_true-right _ _ e))

port_word-plain : (p : Port) → IsPlain (port_word p)
port_word-plain L = plain-from_test (port_word L) refl
port_word-plain E = plain-from_test (port_word E) refl
port_word-plain W = plain-from_test (port_word W) refl
port_word-plain N = plain-from_test (port_word N) refl
port_word-plain S = plain-from_test (port_word S) refl

operand_words-plain : (o : Operands) → ArePlain (operand_words o)
operand_words-plain Nothing = tt
operand_words-plain (Tile t) = (decimal-plain t, tt)
operand_words-plain (Channel r port slot) = (decimal-plain r, (port_word-plain port, (decimal-plain slot, tt)))
operand_words-plain (Way r port slot out) = (decimal-plain r, (port_word-plain port, (decimal-plain slot, (port_word-plain out, tt))))

word-plain : (e : Event) → is_plain (event_form e).word ≡ true
word-plain Tick = refl
word-plain (Core t) = refl
word-plain (Inject t) = refl
word-plain (Post t) = refl
word-plain (Take t) = refl
word-plain (Eject t) = refl
word-plain (Send t) = refl
word-plain (Hop r port slot out) = refl
word-plain (DataHop r port slot) = refl
word-plain (DataEject r port slot) = refl

pub event_words-plain : (e : Event) → ArePlain (event_words e)
event_words-plain e = (plain-from_test (codes "e") refl, (plain-from_test (event_form e).word (word-plain e), operand_words-plain (event_form e).operands))

-- the words of an event's line
pub words_of-event_line : (e : Event) → words_of (event_line e) ≡ event_words e
words_of-event_line e = let plain = event_words-plain e in words_of-joined_words (codes "e") ((event_form e).word ∷ operand_words (event_form e).operands) plain.0 plain.1

-- there are at most six
operand_words-le : (o : Operands) → length (operand_words o) ≤ 4
operand_words-le Nothing = lit≤ tt
operand_words-le (Tile t) = lit≤ tt
operand_words-le (Channel r port slot) = lit≤ tt
operand_words-le (Way r port slot out) = lit≤ tt

pub too_many : (line : List ℕ) (e : Event) → 6 < length (words_of line) → line ≡ event_line e → ⊥
too_many line e more same = absurd (omega (arith, more, ap length (ap words_of same ∙ words_of-event_line e), operand_words-le (event_form e).operands))

-- the line of the event that its words say
pub line-event_said : (line : List ℕ) (e : Event) → event_said (words_of line) ≡ Some e → IsWithinLimits e × (line ≡ event_line e)
line-event_said line e said = let words = event_words-event_said (words_of line) e said in (words.within, sym (joined_words-words_of line) ∙ ap joined_words words.words_are)

-- and the other way
pub event_said-line : (line : List ℕ) (e : Event) → IsWithinLimits e → line ≡ event_line e → event_said (words_of line) ≡ Some e
event_said-line line e within same = ap event_said (ap words_of same ∙ words_of-event_line e) ∙ event_said-event_words e within
