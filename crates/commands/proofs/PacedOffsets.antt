-- The offsets that a numbered pace answers.
use Rattle.std.proofs.Common.{◌≡◌, ℕ, ◌+◌, ◌*◌, ◌%◌, ◌^◌, List, [], ◌∷◌, length, map, true, refl, sym, ap, subst, ◌∙◌}
use Rattle.order_tracker.specs.Order.{upwards}
use Rattle.doc_text.specs.Doc.{Doc}
use Rattle.chip_model.specs.Chip.{Chip, chip_of}
use Rattle.chip_model.specs.Units.{in_order}
use Rattle.chip_model.specs.ChipState.{ChipState, opening}
use Rattle.chip_model.specs.Schedules.{slot_count, pace_offset, pace_offsets, ends, sweeps, AllAreMade, IsSweptTo}
use Rattle.machine_core.specs.Machine.{MachineState}
use Rattle.pace_core.specs.Offsets.{AreAnswers}
use Rattle.progress_core.specs.Sweeping.{SweepsBy}
use Rattle.commands.specs.Steps.{HasSwept}

-- each answer is the offset of a pace
abbrev pub AnswersPace : ℕ → (ℕ → ℕ → ℕ → Type 0) → Type 0
AnswersPace pace post = (sweep slots offset : ℕ) → post sweep slots offset → offset ≡ (pace * (sweep % 2 ^ 32 + 1)) % slots

answered_from : (pace : ℕ) (chip : Chip) (post : ℕ → ℕ → ℕ → Type 0) (sweep : ℕ) (offsets : List ℕ) → AnswersPace pace post → AreAnswers post (slot_count chip) sweep offsets
    → offsets ≡ map (pace_offset pace chip) (upwards sweep (length offsets))
answered_from pace chip post sweep [] answers are = refl
answered_from pace chip post sweep (offset ∷ offsets) answers are =
    rw (sym (answers sweep (slot_count chip) offset are.0)) (ap (λ (rest : List ℕ). offset ∷ rest) (answered_from pace chip post (sweep + 1) offsets answers are.2))

-- these are the first of them
pub answered : (pace : ℕ) (chip : Chip) (post : ℕ → ℕ → ℕ → Type 0) (offsets : List ℕ) → AnswersPace pace post → AreAnswers post (slot_count chip) 0 offsets
    → offsets ≡ pace_offsets pace chip (length offsets)
answered pace chip post offsets answers are = answered_from pace chip post 0 offsets answers are

-- what sweeps by a machine's chip have led to, whatever the chip and the state are called
abbrev Led : (ℕ → ℕ → ℕ → Type 0) → ℕ → List ℕ → ChipState → Doc → ChipState → Type 0
Led post budget offsets new d old =
    (sweeps in_order (chip_of d) budget old offsets ≡ new) × AllAreMade in_order (chip_of d) budget old offsets × AreAnswers post (slot_count (chip_of d)) 0 offsets

-- from the opening, sweeps by a numbered pace lead to where they end
pub swept_to : (pace budget : ℕ) (doc : Doc) (post : ℕ → ℕ → ℕ → Type 0) (old new : MachineState) → AnswersPace pace post → old.document ≡ doc → old.state ≡ opening doc
    → SweepsBy in_order post budget old new → ends budget new.state ≡ true → HasSwept pace budget doc new
swept_to pace budget doc post old new answers is_doc is_opening by ended =
    let from_doc : Led post budget by.offsets new.state doc old.state
    = subst (λ (d : Doc). Led post budget by.offsets new.state d old.state) is_doc (by.swept_is, by.made, by.answers) in
    let led : Led post budget by.offsets new.state doc (opening doc) = subst (Led post budget by.offsets new.state doc) is_opening from_doc in
    let paced = answered pace (chip_of doc) post by.offsets answers led.2 in
    record {
      document = by.same.document ∙ is_doc;
      sweeps = length by.offsets;
      swept = subst (λ (offsets : List ℕ). IsSweptTo in_order doc budget offsets new.state) paced (record { swept = led.0; made = led.1; ended = ended });
    }
