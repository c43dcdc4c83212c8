use Rattle.pcap_records.proofs.Headers.{no_magic}
use Rattle.pcap_records.proofs.header.unit_of.Goals as goal

pub returns-clause-fault : goal.returns-clause-fault
returns-clause-fault c = (
  c.requires,
  c.u32_at-found.ensures.value,
  no_magic c.args.bytes.now (rw c.u32_at-found.ensures.value at c.in_default.ensures.none)
      (rw c.u32_at.ensures.value at c.in_default-unit_of_magic.ensures.none),
)
