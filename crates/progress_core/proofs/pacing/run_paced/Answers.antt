use Rattle.std.proofs.Common.{◌≡◌, ◌+◌, ◌<◌, ◌++◌, ◌∷◌, [], ℕ, Bool, false, refl, sym, ◌∙◌, ap, subst, arith, length, length-append}
use Rattle.std.specs.Prelude.{◌||◌, ◌==◌}
use Rattle.std.proofs.lemmas.Bool.{ne_eqb}
use Rattle.doc_text.specs.Doc.{Doc}
use Rattle.chip_model.specs.Chip.{chip_of}
use Rattle.chip_model.specs.ChipState.{ChipState, finished}
use Rattle.chip_model.specs.Schedules.{slots, slot_count, swept, sweeps, from_offset, ends}
use Rattle.progress_core.proofs.SweptSlots.{sweeps_more, made_more}
use Rattle.progress_core.proofs.AnsweredSweeps.{answers_more}
use Rattle.progress_core.proofs.pacing.run_paced.Goals as goal

pub loop-budget-init : goal.loop-budget-init
unfolding sweeps
loop-budget-init g c = record {
  so_far = record { offsets = []; answers = record {}; same = record { document = refl; room = refl }; swept_is = refl; made = record {} };
  number = refl;
  few = omega arith;
  within = c.requires.within;
}

pub loop-budget-preserved : goal.loop-budget-preserved
loop-budget-preserved g c =
    let b = g.U.Unit.behaviour in
    let d : Doc = c.args.machine.now.document in
    let chip = chip_of d in
    let budget = c.args.budget in
    let old = c.args.machine.now.state in
    let last = c.loop-budget.machine.state in
    let so_far = c.loop-budget.invariant.so_far in
    let document : c.loop-budget.machine.document ≡ d = so_far.same.document in
    let one = c.sweep.ensures.swept in
    let offset = one.offset in
    let less : length last.journal < budget = omega (arith, c.if-length-from.false, c.length.ensures.length, c.from.ensures) in
    let unspent : (length last.journal == budget) ≡ false = ne_eqb (length last.journal) budget (λ same. absurd (omega (arith, same, less))) in
    let running : finished last ≡ false = sym c.finished.ensures ∙ c.if-finished.false in
    let goes : ends budget last ≡ false = ap (λ (spent : Bool). spent || finished last) unspent ∙ running in
    let swept_is : c.sweep.new.machine.state ≡ swept b chip budget last (from_offset (slots chip) offset) =
    one.swept_is ∙ ap (λ (x : Doc). swept b (chip_of x) budget last (from_offset (slots (chip_of x)) offset)) document in
    let grows = c.bound_laws.ensures.grows b c.kind_laws.ensures c.loop-budget.machine.document budget offset last c.stands-in-loop-budget.ensures.within.fits
    c.stands-in-loop-budget.ensures.reached c.loop-budget.invariant.within goes in
    let answer = subst (λ (x : Doc). (goal.F-post g c.args.pace.now) c.loop-budget.k (slot_count (chip_of x)) offset) document one.answer in
    let below = subst (λ (x : Doc). offset < slot_count (chip_of x)) document one.below in
    let sweep : 0 + length so_far.offsets ≡ c.loop-budget.k = omega (arith, c.loop-budget.invariant.number) in
    record {
      so_far = record {
        offsets = so_far.offsets ++ offset ∷ [];
        answers = answers_more (goal.F-post g c.args.pace.now) (slot_count chip) 0 so_far.offsets offset so_far.answers
            (subst (λ (k : ℕ). (goal.F-post g c.args.pace.now) k (slot_count chip) offset) (sym sweep) answer) below;
        same = record { document = one.same.document ∙ so_far.same.document; room = one.same.room ∙ so_far.same.room };
        swept_is = sweeps_more b chip budget old last so_far.offsets offset so_far.swept_is so_far.made goes ∙ sym swept_is;
        made = made_more b chip budget old last so_far.offsets offset so_far.swept_is so_far.made goes;
      };
      number = omega (arith, length-append so_far.offsets (offset ∷ []), c.loop-budget.invariant.number);
      few = omega (arith, c.loop-budget.invariant.few, grows, ap (λ (s : ChipState). length s.journal) one.swept_is);
      within = c.sweep.ensures.within;
    }
