use Rattle.std.proofs.Common.{arith, sym, ap, subst, ◌∙◌, ◌^◌, ◌≡◌, Some, ◌-◌, ◌<◌, false, [], ◌++◌}
use Rattle.std.specs.Prelude.{codes}
use Rattle.std.specs.Fmt.{styled_digits_output, format_spec, padded_integral, DisplaysOnOk, HasWritten, ◌++?◌}
use Rattle.std.specs.Option.{option_map}
use Rattle.std.proofs.lemmas.List.{append-nil}
use Rattle.pcap_records.specs.Texts.{text_of, hex_text}
use Rattle.pcap_records.proofs.HexTexts.{eight_hex_digits}
use Rattle.pcap_records.proofs.fault.PcapFaultDisplay.fmt.Goals as goal

-- src/fault.rt:34:5
pub returns-in-BadMagic-clause-writes : goal.returns-in-BadMagic-clause-writes
returns-in-BadMagic-clause-writes g c plain done =
    let spec = format_spec 32 0 4 8 (2 ^ 64 - 1) in
    let laid : c.laid_out.result ≡ spec = c.laid_out.ensures in
    let small : c.in-BadMagic.found < 2 ^ 32 = omega arith in
    let text = hex_text c.in-BadMagic.found in
    let whole : text_of c.args.self.now ≡ codes "bad magic " ++ text =
    ap (λ fault. text_of fault) c.in-BadMagic.is ∙ ap (λ part. codes "bad magic " ++ part) (append-nil text) in
    let shown : styled_digits_output c.in_radix.result c.laid_out.result ≡ Some text =
    ap (λ s. styled_digits_output c.in_radix.result s) laid
    ∙ ap (λ digits. option_map (padded_integral spec false []) digits) c.in_radix.ensures
    ∙ ap Some (eight_hex_digits c.in-BadMagic.found small) in
    let write = c.write-in-BadMagic in
    let gives = g.W.Write.write_str_gives in
    let written = subst (λ part. DisplaysOnOk gives c.args.f.now write.result (Some (codes "bad magic ") ++? part) write.new.self)
    shown write.ensures.writes in
    subst (λ all. HasWritten gives c.args.f.now all write.new.self) (sym whole) (written plain done)
