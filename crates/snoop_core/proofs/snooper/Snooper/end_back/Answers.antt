use Rattle.std.proofs.Common.{◌≡◌, ◌≤◌, ◌++◌, ◌∷◌, [], length, length-append, true, false, sym, ◌∙◌, ap, subst, arith}
use Rattle.std.proofs.lemmas.List.{append-nil}
use Rattle.mesh_gen.specs.declared.msg.Msg.{Msg}
use Rattle.mesh_gen.specs.declared.msg_kind.MsgKind.TheVariants.{Back}
use Rattle.chip_model.specs.Chip.{home}
use Rattle.chip_model.specs.Misses.{WriteBack}
use Rattle.chip_model.specs.Snoop.{Outcome}
use Rattle.miss_table.specs.declared.look.BackLook.{BackLook}
use Rattle.snoop_core.specs.ChipSides.{ChipSide}
use Rattle.snoop_core.proofs.Seen.{sees_back, no_back_seen}
use Rattle.snoop_core.proofs.Options.{none_some}
use Rattle.snoop_core.proofs.OwnSteps.{put_is, same_back, put_message}
use Rattle.snoop_core.proofs.snooper.Snooper.end_back.Goals as goal

pub home-requires : goal.home-requires
home-requires c =
    let seen = sees_back c.args.self.now.side.misses.back c.in-Some.back (sym c.back.ensures ∙ c.in-Some.is) in
    let same = same_back c.args.self.now.side.misses.back seen.back c.requires.own.0 seen.stands c.requires.own.1 in
    let line : c.in-Some.back.line ≡ c.args.q.line = sym (ap (λ (l : BackLook). l.line) seen.looks) ∙ ap (λ (b : WriteBack). b.line) same ∙ c.requires.own.2.line in
    let lines = ap (λ (site : ChipSide). site.chip.lines) c.self.view_is in
    omega (arith, line, lines, c.requires.line)

pub push-requires : goal.push-requires
push-requires c =
    let seen = sees_back c.args.self.now.side.misses.back c.in-Some.back (sym c.back.ensures ∙ c.in-Some.is) in
    let is = put_is c.args.self.now seen.back true seen.stands (ap (λ (l : BackLook). l.live) seen.looks ∙ c.if-back.true) in
    let room : length (c.args.out.now ++ record { to = home c.args.self.now.chip seen.back.line; kind = Back; line = seen.back.line; words = seen.back.words } ∷ []) ≤ 65 =
    subst (λ (o : Outcome). length (c.args.out.now ++ o.sends) ≤ 65) is c.requires.room in
    omega (arith, room, length-append c.args.out.now (record { to = home c.args.self.now.chip seen.back.line; kind = Back; line = seen.back.line; words = seen.back.words } ∷ []))

pub returns-then-back-clause-sent : goal.returns-then-back-clause-sent
returns-then-back-clause-sent c =
    let seen = sees_back c.args.self.now.side.misses.back c.in-Some.back (sym c.back.ensures ∙ c.in-Some.is) in
    let is = put_is c.args.self.now seen.back true seen.stands (ap (λ (l : BackLook). l.live) seen.looks ∙ c.if-back.true) in
    let homes = c.home.ensures.home ∙ ap (λ (site : ChipSide). home site.chip c.in-Some.back.line) c.self.view_is in
    c.push.ensures
    ∙ ap (λ (m : Msg). c.args.out.now ++ m ∷ []) (put_message c.args.self.now.chip seen.back c.in-Some.back.line c.home.result c.in-Some.back.words (ap (λ (l : BackLook). l.line) seen.looks) (ap (λ (l : BackLook). l.words) seen.looks) homes)
    ∙ ap (λ (o : Outcome). c.args.out.now ++ o.sends) (sym is)

pub returns-else-back-clause-sent : goal.returns-else-back-clause-sent
returns-else-back-clause-sent c =
    let seen = sees_back c.args.self.now.side.misses.back c.in-Some.back (sym c.back.ensures ∙ c.in-Some.is) in
    let is = put_is c.args.self.now seen.back false seen.stands (ap (λ (l : BackLook). l.live) seen.looks ∙ c.if-back.false) in
    sym (append-nil c.args.out.now) ∙ ap (λ (o : Outcome). c.args.out.now ++ o.sends) (sym is)

pub returns-in_default : goal.returns-in_default
returns-in_default c =
    let none = no_back_seen c.args.self.now.side.misses.back (sym c.back.ensures ∙ c.in_default.is) in
    absurd (none_some c.args.self.now.side.misses.back c.requires.own.0 none c.requires.own.1)
