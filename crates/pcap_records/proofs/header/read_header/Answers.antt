use Rattle.std.proofs.Common.{◌∙◌, inl, inr, refl, sym, drop, arith}
use Rattle.std.proofs.lemmas.Result.{err_from_is_err_and}
use Rattle.pcap_records.specs.Format.{Header}
use Rattle.pcap_records.specs.Captures.{HasHeader}
use Rattle.pcap_records.proofs.Headers.{link_in, has_header, good_header}
use Rattle.pcap_records.proofs.header.read_header.Goals as goal
use Rattle.pcap_records.proofs.header.read_header.Goals.{After-u16_at-minor}

-- the header as the bytes spell it, whatever it says
abbrev said : After-u16_at-minor → Header
said c =
    record {
      order = c.in_ok-order.order;
      nano = c.in_ok-order.nano;
      major = c.u16_at-major.result;
      minor = c.u16_at-minor.result;
      link = link_in c.in_ok-order.order c.args.bytes.now;
    }

there : (c : After-u16_at-minor) → HasHeader c.args.bytes.now (said c) (drop 24 c.args.bytes.now)
there c =
    has_header (said c) c.args.bytes.now (λ i. omega (arith, c.type_inv.bytes i)) (omega arith) (record {
      magic_there = c.in_ok-order.ensures.found;
      major_there = c.u16_at-major.ensures;
      minor_there = c.u16_at-minor.ensures;
      major = c.u16_at-major.type_inv;
      minor = c.u16_at-minor.type_inv;
      link = refl;
    })

pub returns-then-major-ne-MAJOR-clause-fault : goal.returns-then-major-ne-MAJOR-clause-fault
returns-then-major-ne-MAJOR-clause-fault c = (
  _,
  drop 24 c.args.bytes.now,
  there (goal.at.returns-then-major-ne-MAJOR-clause-fault c).After-u16_at-minor,
  refl,
  refl,
  λ both. elim c.then-major-ne-MAJOR.either [ inl other ↦ other both.0 | inr other ↦ other.1 both.1 ],
)

pub returns-in_err-link-clause-fault : goal.returns-in_err-link-clause-fault
returns-in_err-link-clause-fault c =
    let p = err_from_is_err_and c.from_residual-in_err-link.result c.from_residual-in_err-link.ensures.1 in
    let f = c.in_err-link.ensures.fault in
    rw (p.1, p.2, f.0) (
      _,
      drop 24 c.args.bytes.now,
      there (goal.at.returns-in_err-link-clause-fault c).After-u16_at-minor,
      c.if-major-ne-MAJOR.false,
      c.if-minor-ne-MINOR.false,
      sym c.u32_at.ensures.value,
      f.1,
      f.2,
    )

pub returns-clause-found : goal.returns-clause-found
returns-clause-found c =
    let after = (goal.at.returns-clause-found c).After-u16_at-minor in
    good_header (said after) c.in_ok-link.link c.args.bytes.now (drop 24 c.args.bytes.now)
    c.if-major-ne-MAJOR.false c.if-minor-ne-MINOR.false (sym c.u32_at.ensures.value ∙ sym c.in_ok-link.ensures.found) (there after)
