use Rattle.std.proofs.Common.{◌≡◌, ◌∙◌, drop, ap, arith}
use Rattle.std.proofs.lemmas.List.{take_rest}
use Rattle.byteorder.specs.Endian.{big_number, little_number}
use Rattle.pcap_records.specs.declared.order.Order.TheVariants.{Big, Little}
use Rattle.pcap_records.specs.Format.{number_in}
use Rattle.pcap_records.proofs.Numbers.{read_four}
use Rattle.pcap_records.proofs.order.Order.u32_at.Goals as goal

big_value : (c : goal.After-read_u32) → c.read_u32.result ≡ number_in Big 4 (drop c.args.at c.args.bytes.now)
unfolding number_in
big_value c = c.read_u32.ensures ∙ ap (big_number 4) (take_rest c.args.bytes.now c.args.at)

little_value : (c : goal.After-read_u32-in-Little) → c.read_u32-in-Little.result ≡ number_in Little 4 (drop c.args.at c.args.bytes.now)
unfolding number_in
little_value c = c.read_u32-in-Little.ensures ∙ ap (little_number 4) (take_rest c.args.bytes.now c.args.at)

pub returns-in-Big-clause-value : goal.returns-in-Big-clause-value
returns-in-Big-clause-value c = rw c.in-Big.is (big_value c)

pub returns-in-Little-clause-value : goal.returns-in-Little-clause-value
returns-in-Little-clause-value c = rw c.in-Little.is (little_value c)

pub returns-in-Big-clause-spelled : goal.returns-in-Big-clause-spelled
returns-in-Big-clause-spelled c =
    rw c.in-Big.is (read_four Big c.args.bytes.now c.args.at c.read_u32.result c.requires (λ i. omega (arith, c.type_inv.bytes i)) (big_value c))

pub returns-in-Little-clause-spelled : goal.returns-in-Little-clause-spelled
returns-in-Little-clause-spelled c =
    rw c.in-Little.is (read_four Little c.args.bytes.now c.args.at c.read_u32-in-Little.result c.requires (λ i. omega (arith, c.type_inv.bytes i))
    (little_value c))
