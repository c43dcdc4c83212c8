use Rattle.std.proofs.Common.{◌≡◌, max, slice_index, inl, inr, arith}
use Rattle.std.proofs.lemmas.Bool.{cases_eq}
use Rattle.pointer_state.proofs.caller_tables.greatest_place.Goals as goal

pub loop-port-preserved : goal.loop-port-preserved
loop-port-preserved c bound some =
    let before = c.loop-port.invariant bound some in
    let here = c.loop-port.port in
    let both : c.max.result ≡ max (slice_index c.args.grant.now here) (slice_index c.args.accept.now here) = c.max.ensures in
    let greater : c.max-greatest.result ≡ max c.loop-port.greatest c.max.result = c.max-greatest.ensures in (
      λ less port port_in. elim (cases_eq port here) [
        | inl same ↦ rw same (omega (arith, both, greater), omega (arith, both, greater))
        | inr apart ↦ before.0 (omega (arith, greater)) port (omega arith)
      ],
      λ all.
          let earlier = before.1 (λ port port_in. all port (omega arith)) in
          let last = all here (omega arith) in
          let grant_in = last.0 in
          let accept_in = last.1 in
          omega (arith, both, greater),
    )

pub returns : goal.returns
returns c bound some =
    let all = c.loop-port.invariant bound some in (
      λ less port port_in. all.0 less port (omega arith),
      λ places. all.1 (λ port port_in. places port (omega arith)),
    )
