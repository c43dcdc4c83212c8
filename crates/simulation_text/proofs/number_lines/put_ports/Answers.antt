use Rattle.std.proofs.Common.{arith, string_bytes}
use Rattle.simulation_text.specs.Texts.{port_line}
use Rattle.simulation_text.proofs.Placing.{place_more, places_all}
use Rattle.simulation_text.proofs.number_lines.put_ports.Goals as goal

pub loop-number-preserved : goal.loop-number-preserved
loop-number-preserved c = place_more port_line c.args.ports.now c.loop-number.number _ (string_bytes c.args.text.now) (string_bytes c.loop-number.text) _
    (omega arith) c.loop-number.invariant c.in_ok-put_port.ensures

pub returns : goal.returns
returns c = places_all port_line c.args.ports.now c.loop-number.number (string_bytes c.args.text.now) (string_bytes c.loop-number.text)
    (omega arith) c.loop-number.invariant
