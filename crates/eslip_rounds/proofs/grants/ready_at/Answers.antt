use Rattle.std.proofs.Common.{inl, inr}
use Rattle.rotating_pick.specs.declared.kinds.Kind.TheVariants.{Multi}
use Rattle.eslip_rounds.proofs.grants.ready_at.Goals as goal

pub returns-in-Multi : goal.returns-in-Multi
returns-in-Multi c i =
    let u = c.union.ensures i in
    let f = c.free_inputs-in-Multi.ensures i in
    let m = c.multicasting.ensures i in (
      λ has. elim (u.0 has) [
        | inl free ↦ let p = f.0 free in (p.0, inl p.1)
        | inr going ↦ let on = m.0 going in (c.requires.whole.input_in i on.some.0 c.args.level Multi on.some.1, inr (c.in-Multi.is, on))
      ],
      λ p. u.1 (elim p.1 [ inl free ↦ inl (f.1 (p.0, free)) | inr on ↦ inr (m.1 on.1) ]),
    )
