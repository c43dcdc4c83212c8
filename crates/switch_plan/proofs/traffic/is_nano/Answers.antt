use Rattle.std.proofs.Common.{◌≡◌, ◌∙◌, ◌||◌, List, [], ◌∷◌, refl, ap, rules, tests}
use Rattle.std.specs.Prelude.{map}
use Rattle.std.specs.List.{list_any}
use Rattle.std.proofs.lemmas.Iterator.{YieldsList-from_slice}
use Rattle.std.proofs.lemmas.Iterator.Search.{any_from_yields_List}
use Rattle.pcap_records.specs.declared.capture.Capture.{Capture}
use Rattle.switch_plan.specs.Traffic.{file_of, is_nano}
use Rattle.switch_plan.proofs.traffic.is_nano.Goals as goal

any_file : (captures : List Capture) → list_any (λ (c : Capture). c.nano) captures ≡ is_nano (map file_of captures)
any_file [] = refl
any_file (capture ∷ captures) = ap (λ b. capture.nano || b) (any_file captures)

pub returns : goal.returns
returns c =
    any_from_yields_List (λ (capture : Capture). capture.nano) _ _ _ c.any.ensures.ran (YieldsList-from_slice c.args.captures.now cc)
    (λ x b q k. search (rules, tests))
    ∙ any_file c.args.captures.now
