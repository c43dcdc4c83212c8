use Rattle.std.proofs.Common.{ℕ, ◌+◌, ◌%◌, ◌<◌, ◌∙◌, refl, sym, ap, subst, arith}
use Rattle.rotating_pick.specs.Rotation.{IsFirstFrom}
use Rattle.rotating_pick.specs.declared.kinds.Kind.TheVariants.{Multi}
use Rattle.rotating_pick.proofs.Bits.{IsAmong-from_members}
use Rattle.slot_match.specs.Rows.{HasHead}
use Rattle.slot_match.specs.Keeping.{Gives}
use Rattle.slot_match.proofs.Sets.{zero-has}
use Rattle.slot_match.proofs.KeepingParts.{Gives-iff_serves}
use Rattle.pointer_state.specs.Places.{shared_of}
use Rattle.eslip_rounds.proofs.Meeting.{IsFirstFrom-heads, IsPassed-done, IsPassed-left, IsPassed-nobody}
use Rattle.eslip_rounds.proofs.moves.pass.Goals as goal

pub pick-requires-clause-among : goal.pick-requires-clause-among
pick-requires-clause-among c = IsAmong-from_members c.args.n c.heads-posted.result (λ x has. ((c.heads-posted.ensures x).0 has).0)

pub returns-then-completes-clause-passed : goal.returns-then-completes-clause-passed
returns-then-completes-clause-passed c =
    let n = c.args.n in
    let from_in : shared_of c.args.p.now c.args.level < n = let e = c.shared.ensures.value in let below = c.shared.ensures.within in omega arith in
    let first = subst (λ a. IsFirstFrom n a (HasHead c.args.rows.now c.args.level) c.in-Some.i) c.shared.ensures.value
    (IsFirstFrom-heads n c.shared.result c.heads-posted.result c.args.rows.now c.args.level c.heads-posted.ensures c.in-Some.i c.in-Some.ensures.first) in
    let gives = λ (j : ℕ). Gives-iff_serves n c.args.matched.now c.requires.whole c.in-Some.i j c.args.level Multi in
    IsPassed-done n c.args.rows.now c.args.matched.now c.args.p.now c.passed.new.self c.args.level from_in c.in-Some.i first
    (λ j named. (gives j).0 (subst (λ part. Gives part j c.args.level Multi) c.served.ensures.value (c.completes.ensures.0 c.if-completes.true j named)))
    (c.passed.ensures.shared ∙ ap (λ m. (c.in-Some.i + 1) % m) c.requires.ports)

pub returns-else-completes-clause-passed : goal.returns-else-completes-clause-passed
returns-else-completes-clause-passed c =
    let n = c.args.n in
    let from_in : shared_of c.args.p.now c.args.level < n = let e = c.shared.ensures.value in let below = c.shared.ensures.within in omega arith in
    let first = subst (λ a. IsFirstFrom n a (HasHead c.args.rows.now c.args.level) c.in-Some.i) c.shared.ensures.value
    (IsFirstFrom-heads n c.shared.result c.heads-posted.result c.args.rows.now c.args.level c.heads-posted.ensures c.in-Some.i c.in-Some.ensures.first) in
    let gives = λ (j : ℕ). Gives-iff_serves n c.args.matched.now c.requires.whole c.in-Some.i j c.args.level Multi in
    IsPassed-left n c.args.rows.now c.args.matched.now c.args.p.now c.args.p.now c.args.level from_in c.in-Some.i first
    (λ done. let holds = c.completes.ensures.1
    (λ j named. subst (λ part. Gives part j c.args.level Multi) (sym c.served.ensures.value) ((gives j).1 (done j named))) in absurd (cc)) refl

pub returns-in_default-clause-passed : goal.returns-in_default-clause-passed
returns-in_default-clause-passed c =
    IsPassed-nobody c.args.n c.args.rows.now c.args.matched.now c.args.p.now c.args.p.now c.args.level
    (λ i i_in head. zero-has c.heads-posted.result i (c.in_default.ensures.none.0 refl) ((c.heads-posted.ensures i).1 (i_in, head))) refl
