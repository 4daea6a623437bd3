-- The words of a line say an event exactly where they are that event's words.
use Rattle.std.proofs.Common.{◌≡◌, ◌≢◌, ℕ, ◌≤◌, Bool, true, false, cond, List, [], ◌∷◌, ◌++◌, Option, Some, None, refl, sym, ap, subst, ◌∙◌, arith}
use Rattle.std.specs.Prelude.{codes, decimal}
use Rattle.std.specs.List.{find, AllByRecursion}
use Rattle.std.specs.Option.{option_and_then}
use Rattle.std.specs.Str.{bytes_eq}
use Rattle.std.proofs.lemmas.Slice.Eq.{bytes_eq-Decides}
use Rattle.mesh_gen.specs.declared.port.Port.{Port}
use Rattle.mesh_gen.specs.declared.port.Port.TheVariants.{L, E, W, N, S}
use Rattle.report_text.specs.declared.event.Event.{Event}
use Rattle.report_text.specs.declared.event.Event.TheVariants.{Tick, Core, Inject, Post, Take, Eject, Send, Hop, DataHop, DataEject}
use Rattle.report_text.specs.declared.operands.Operands.{Operands}
use Rattle.report_text.specs.declared.operands.Operands.TheVariants.{Nothing, Tile, Channel, Way}
use Rattle.report_text.specs.Events.{event_form, port_word, operand_words, event_words, AreWithin, IsWithinLimits}
use Rattle.report_text.specs.Scanning.{tile_said, slot_said, all_ports, output_ports, port_said, channel_said, operands_said, events_with, event_named, event_said}
use Rattle.report_text.proofs.Numbers.{decimal-up_to, up_to-decimal, none_some}

-- what is found is one of the list, and passes
record IsFound {X : Type 0} (P : X → Type 0) (test : X → Bool) (x : X) : Type 0 where
  holds : P x
  passes : test x ≡ true

find-found : {X : Type 0} (P : X → Type 0) (test : X → Bool) (xs : List X) (x : X) → AllByRecursion P xs → find test xs ≡ Some x → IsFound P test x
find-found P test [] x all e = absurd (none_some x e)
find-found P test (y ∷ ys) x all e = by_test (test y) refl (find-found P test ys x all.1) e
  where
    by_test : (b : Bool) → test y ≡ b → (find test ys ≡ Some x → IsFound P test x) → cond b (Some y) (find test ys) ≡ Some x → IsFound P test x
    by_test true passes later h =
        let same : y ≡ x = cc in
        record { holds = subst P same all.0; passes = sym (ap test same) ∙ passes }
    by_test false fails later h = later h

-- a step that went on
record WentOn {X Y : Type 0} (f : X → Option Y) (o : Option X) (y : Y) : Type 0 where
  found : X
  was : o ≡ Some found
  then : f found ≡ Some y

went_on : {X Y : Type 0} (f : X → Option Y) (o : Option X) (y : Y) → option_and_then f o ≡ Some y → WentOn f o y
went_on f None y e = absurd (none_some y e)
went_on f (Some x) y e = record { found = x; was = refl; then = e }

-- ---- ports

port_said-named : (ports : List Port) (P : Port → Type 0) (word : List ℕ) (p : Port) → AllByRecursion P ports → port_said ports word ≡ Some p → P p × (word ≡ port_word p)
unfolding port_said
port_said-named ports P word p all e =
    let found = find-found P (λ q. bytes_eq word (port_word q)) ports p all e in
    (found.holds, (bytes_eq-Decides word (port_word p)).0 found.passes)

port_said-port_word : (p : Port) → port_said all_ports (port_word p) ≡ Some p
unfolding port_said
port_said-port_word L = refl
port_said-port_word E = refl
port_said-port_word W = refl
port_said-port_word N = refl
port_said-port_word S = refl

side_said-port_word : (p : Port) → p ≢ L → port_said output_ports (port_word p) ≡ Some p
unfolding port_said
side_said-port_word L side = absurd (side refl)
side_said-port_word E side = refl
side_said-port_word W side = refl
side_said-port_word N side = refl
side_said-port_word S side = refl

abbrev IsOutputPort : Port → Type 0
IsOutputPort p = p ≢ L

are_output_ports : AllByRecursion IsOutputPort output_ports
are_output_ports = (λ e. absurd cc, (λ e. absurd cc, (λ e. absurd cc, (λ e. absurd cc, tt))))

-- ---- operands

tile_said-decimal : (t : ℕ) → t ≤ 63 → tile_said (decimal t) ≡ Some t
tile_said-decimal t le = up_to-decimal 63 t le (omega arith)

slot_said-decimal : (s : ℕ) → s ≤ 15 → slot_said (decimal s) ≡ Some s
slot_said-decimal s le = up_to-decimal 15 s le (omega arith)

operands_said-operand_words : (o : Operands) → AreWithin o → operands_said (operand_words o) ≡ Some o
unfolding operands_said
operands_said-operand_words Nothing w = refl
operands_said-operand_words (Tile t) w = rw (tile_said-decimal t w) refl
operands_said-operand_words (Channel r port slot) w = rw (tile_said-decimal r w.0, port_said-port_word port, slot_said-decimal slot w.1) refl
operands_said-operand_words (Way r port slot out) w = rw (tile_said-decimal r w.0, port_said-port_word port, slot_said-decimal slot w.1, side_said-port_word out w.2) refl

-- what these words name, and that they are its words
record AreWordsOf (words : List (List ℕ)) (o : Operands) : Type 0 where
  within : AreWithin o
  words_are : words ≡ operand_words o

some_inverse : {X : Type 0} (x y : X) → Some x ≡ Some y → x ≡ y
some_inverse x y e = cc

-- a channel that is read
record IsChannel {X : Type 0} (make : ℕ → Port → ℕ → Option X) (r port slot : List ℕ) (x : X) : Type 0 where
  tile : ℕ
  side : Port
  place : ℕ
  tile_within : tile ≤ 63
  place_within : place ≤ 15
  words_are : r ∷ port ∷ slot ∷ [] ≡ operand_words (Channel tile side place)
  made : make tile side place ≡ Some x

any_port : AllByRecursion (λ (p : Port). Unit {0}) all_ports
any_port = (tt, (tt, (tt, (tt, (tt, tt)))))

channel_said-channel : {X : Type 0} (make : ℕ → Port → ℕ → Option X) (r port slot : List ℕ) (x : X) → channel_said make r port slot ≡ Some x → IsChannel make r port slot x
channel_said-channel make r port slot x e =
    let first = went_on _ _ _ e in
    let second = went_on _ _ _ first.then in
    let third = went_on _ _ _ second.then in
    let tile = decimal-up_to 63 r first.found first.was in
    let side = port_said-named all_ports (λ (p : Port). Unit {0}) port second.found any_port second.was in
    let place = decimal-up_to 15 slot third.found third.was in
    record {
      tile = first.found;
      side = second.found;
      place = third.found;
      tile_within = tile.within;
      place_within = place.within;
      words_are = ap (λ (w : List ℕ). w ∷ port ∷ slot ∷ []) tile.text ∙ ap (λ (w : List ℕ). decimal first.found ∷ w ∷ slot ∷ []) side.1 ∙ ap (λ (w : List ℕ). decimal first.found ∷ port_word second.found ∷ w ∷ []) place.text;
      made = third.then;
    }

operand_words-operands_said : (words : List (List ℕ)) (o : Operands) → operands_said words ≡ Some o → AreWordsOf words o
unfolding operands_said
operand_words-operands_said [] o e = let same : Nothing ≡ o = some_inverse _ _ e in subst (AreWordsOf []) same (record { within = tt; words_are = refl })
operand_words-operands_said (t ∷ []) o e =
    let step = went_on _ _ _ e in
    let tile = decimal-up_to 63 t step.found step.was in
    subst (AreWordsOf (t ∷ [])) (some_inverse _ _ step.then) (record { within = tile.within; words_are = ap (λ (w : List ℕ). w ∷ []) tile.text })
operand_words-operands_said (r ∷ port ∷ []) o e = absurd (none_some o e)
operand_words-operands_said (r ∷ port ∷ slot ∷ []) o e =
    let channel = channel_said-channel _ r port slot o e in
    subst (AreWordsOf (r ∷ port ∷ slot ∷ [])) (some_inverse _ _ channel.made) (record { within = (channel.tile_within, channel.place_within); words_are = channel.words_are })
operand_words-operands_said (r ∷ port ∷ slot ∷ out ∷ []) o e =
    let channel = channel_said-channel _ r port slot o e in
    let step = went_on _ _ _ channel.made in
    let side = port_said-named output_ports IsOutputPort out step.found are_output_ports step.was in
    subst (AreWordsOf (r ∷ port ∷ slot ∷ out ∷ [])) (some_inverse _ _ step.then)
    (record {
      within = (channel.tile_within, channel.place_within, side.0);
      words_are = ap (λ (ws : List (List ℕ)). ws ++ out ∷ []) channel.words_are ∙ ap (λ (w : List ℕ). operand_words (Channel channel.tile channel.side channel.place) ++ w ∷ []) side.1;
    })
operand_words-operands_said (r ∷ port ∷ slot ∷ out ∷ next ∷ more) o e = absurd (none_some o e)

-- ---- events

event_named-word : (e : Event) → event_named (event_form e).word (events_with (event_form e).operands) ≡ Some e
unfolding event_named
event_named-word Tick = refl
event_named-word (Core t) = refl
event_named-word (Inject t) = refl
event_named-word (Post t) = refl
event_named-word (Take t) = refl
event_named-word (Eject t) = refl
event_named-word (Send t) = refl
event_named-word (Hop r port slot out) = refl
event_named-word (DataHop r port slot) = refl
event_named-word (DataEject r port slot) = refl

abbrev Names : Operands → Event → Type 0
Names o e = (event_form e).operands ≡ o

all_name : (o : Operands) → AllByRecursion (Names o) (events_with o)
all_name Nothing = (refl, tt)
all_name (Tile t) = (refl, (refl, (refl, (refl, (refl, (refl, tt))))))
all_name (Channel r port slot) = (refl, (refl, tt))
all_name (Way r port slot out) = (refl, tt)

-- the event that is found has this word and these operands
word-event_named : (word : List ℕ) (o : Operands) (e : Event) → event_named word (events_with o) ≡ Some e → ((event_form e).operands ≡ o) × (word ≡ (event_form e).word)
unfolding event_named
word-event_named word o e h =
    let found = find-found (Names o) (λ x. bytes_eq word (event_form x).word) (events_with o) e (all_name o) h in
    (found.holds, (bytes_eq-Decides word (event_form e).word).0 found.passes)

-- the words of an event within the limits say it
pub event_said-event_words : (e : Event) → IsWithinLimits e → event_said (event_words e) ≡ Some e
unfolding event_said
event_said-event_words e within = rw (operands_said-operand_words (event_form e).operands within, event_named-word e) refl

-- words that say an event are its words
pub record AreWordsOfEvent (words : List (List ℕ)) (e : Event) : Type 0 where
  pub within : IsWithinLimits e
  pub words_are : words ≡ event_words e

pub event_words-event_said : (words : List (List ℕ)) (e : Event) → event_said words ≡ Some e → AreWordsOfEvent words e
unfolding event_said
event_words-event_said [] e h = absurd (none_some e h)
event_words-event_said (first ∷ []) e h = absurd (none_some e h)
event_words-event_said (first ∷ word ∷ words) e h = by_first (bytes_eq first (codes "e")) refl h
  where
    by_first : (b : Bool) → bytes_eq first (codes "e") ≡ b → cond b (option_and_then (λ operands. event_named word (events_with operands)) (operands_said words)) None ≡ Some e → AreWordsOfEvent (first ∷ word ∷ words) e
    by_first true same said =
        let step = went_on _ _ _ said in
        let operands = operand_words-operands_said words step.found step.was in
        let named = word-event_named word step.found e step.then in
        record {
          within = subst AreWithin (sym named.0) operands.within;
          words_are =
              ap (λ (w : List ℕ). w ∷ word ∷ words) ((bytes_eq-Decides first (codes "e")).0 same)
              ∙ ap (λ (w : List ℕ). codes "e" ∷ w ∷ words) named.1
              ∙ ap (λ (ws : List (List ℕ)). codes "e" ∷ (event_form e).word ∷ ws) (operands.words_are ∙ ap operand_words (sym named.0));
        }
    by_first false other said = absurd (none_some e said)
