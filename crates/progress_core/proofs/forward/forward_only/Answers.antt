use Rattle.std.proofs.Common.{◌≡◌, length, sym, ◌∙◌, ap, subst, arith, refl, inl, inr}
use Rattle.std.specs.Prelude.{slice_get}
use Rattle.std.proofs.lemmas.Bool.{cases_eq}
use Rattle.std.proofs.lemmas.Option.{same_Some, slice_get_within}
use Rattle.doc_text.specs.Doc.{doc_of}
use Rattle.progress_core.specs.Forward.{ProgramIsForward}
use Rattle.progress_core.proofs.ForwardPrograms.{item_here, forward_of, program_of}
use Rattle.progress_core.proofs.forward.forward_only.Goals as goal

pub returns-then-not-program_is_forward : goal.returns-then-not-program_is_forward
returns-then-not-program_is_forward c = (λ no. cc, λ forward. absurd (c.if-not-program_is_forward.ensures.backward refl (program_of (doc_of c.args.document.now) forward c.loop-program.program-index c.program-item.result (item_here c.as_slice-program-items.result.now c.args.document.now.programs c.loop-program.program-index c.program-item.result c.loop-program.invariant.items c.loop-program-test.true c.program-item.is))))

pub loop-program-preserved : goal.loop-program-preserved
loop-program-preserved c = record {
  items = c.loop-program.invariant.items;
  so_far = λ tile program below there. elim (cases_eq tile c.loop-program.program-index) [
    | inl same ↦
        let here = item_here c.as_slice-program-items.result.now c.args.document.now.programs c.loop-program.program-index c.program-item.result c.loop-program.invariant.items c.loop-program-test.true c.program-item.is in
        let is : c.program-item.result ≡ program = same_Some _ program (sym here ∙ ap (slice_get c.args.document.now.programs) (sym same) ∙ there) in
        subst ProgramIsForward is (c.if-not-program_is_forward.ensures.forward refl)
    | inr other ↦ c.loop-program.invariant.so_far tile program (omega (arith, below, other)) there
  ];
}

pub returns : goal.returns
returns c = (
  λ yes. forward_of (doc_of c.args.document.now) (λ tile program there. c.loop-program.invariant.so_far tile program
      (let past = c.loop-program-test.false in let within = slice_get_within c.args.document.now.programs tile program there in let same = ap length c.loop-program.invariant.items in omega (arith, past, within, same)) there),
  λ forward. refl,
)
