-- The captures that outputs keep.
use Rattle.std.proofs.Common.{◌≡◌, ◌∙◌, ℕ, suc, Bool, true, false, List, [], ◌∷◌, ◌++◌, map, Option, None, Some, refl, sym, ap}
use Rattle.std.specs.Prelude.{slice_get, IfSome, is_some}
use Rattle.std.specs.Option.{option_map, option_to_list, unwrap_or}
use Rattle.std.specs.List.{cons_option, filter_map}
use Rattle.std.proofs.lemmas.List.Elements.{filter_map-append}
use Rattle.std.proofs.lemmas.Option.{slice_get-map}
use Rattle.eslip_rounds.proofs.Granting.{option_map_some}
use Rattle.pcap_records.specs.declared.link.Link.{Link}
use Rattle.eslip_rounds.specs.Schedulers.{Scheduler}
use Rattle.switch_plan.specs.GoodPlans.{SwitchPlan}
use Rattle.run_laws.specs.Runs.{before_under}
use Rattle.descriptor_runs.specs.declared.outputs.Captures.{Captures}
use Rattle.descriptor_runs.specs.declared.outputs.Captures.TheVariants.{Kept, Dropped}
use Rattle.descriptor_runs.specs.OutputSteps.{OutputValue, HasCome, AreKeeping, is_kept, keeping, new_output}

-- ---- outputs to which nothing has come
pub new_keeps : (captures : Captures) (nano : Bool) (link : Link) → is_some (new_output captures nano link).text ≡ is_kept captures
new_keeps Kept nano link = refl
new_keeps Dropped nano link = refl

pub new_come : (captures : Captures) (scheduler : Scheduler) (plan : SwitchPlan) (j : ℕ) → HasCome scheduler plan 1 j (new_output captures plan.nano plan.link)
unfolding before_under
new_come Kept scheduler plan j = record { text = refl; packets = refl; cells = refl }
new_come Dropped scheduler plan j = record { text = tt; packets = refl; cells = refl }

-- ---- outputs that keep as others do
pub keeping-same : (captures : Captures) (before after : List OutputValue) → AreKeeping captures before → keeping after ≡ keeping before
    → AreKeeping captures after
keeping-same captures before after are same j output at =
    let keeps : OutputValue → Bool = λ x. is_some x.text in
    let found : option_map keeps (slice_get before j) ≡ Some (keeps output) =
    sym (slice_get-map keeps before j) ∙ ap (λ bits. slice_get bits j) (sym same) ∙ slice_get-map keeps after j ∙ ap (option_map keeps) at in
    let from = option_map_some keeps (slice_get before j) (keeps output) found in
    sym from.2 ∙ are j from.0 from.1

-- ---- the captures that are kept
-- what an output has kept, or nothing
abbrev pub text_of : OutputValue → List ℕ
text_of output = unwrap_or output.text []

listed : (text : Option (List ℕ)) → option_to_list text ≡ cons_option text []
listed None = refl
listed (Some t) = refl

cons_kept : (text : Option (List ℕ)) (rest more : List (List ℕ)) → is_some text ≡ true → rest ≡ more → cons_option text rest ≡ unwrap_or text [] ∷ more
cons_kept None rest more kept same = absurd (cc)
cons_kept (Some t) rest more kept same = ap (λ texts. t ∷ texts) same

cons_dropped : (text : Option (List ℕ)) (rest : List (List ℕ)) → is_some text ≡ false → rest ≡ [] → cons_option text rest ≡ []
cons_dropped None rest dropped same = same
cons_dropped (Some t) rest dropped same = absurd (cc)

-- with an output more
pub one_more : (outputs : List OutputValue) (output : OutputValue)
    → filter_map (λ (x : OutputValue). x.text) outputs ++ option_to_list output.text ≡ filter_map (λ (x : OutputValue). x.text) (outputs ++ output ∷ [])
one_more outputs output =
    ap (λ texts. filter_map (λ (x : OutputValue). x.text) outputs ++ texts) (listed output.text)
    ∙ sym (filter_map-append (λ (x : OutputValue). x.text) outputs (output ∷ []))

-- all,
pub all_kept : (outputs : List OutputValue) → AreKeeping Kept outputs → filter_map (λ (output : OutputValue). output.text) outputs ≡ map text_of outputs
all_kept [] are = refl
all_kept (output ∷ outputs) are =
    cons_kept output.text _ _ (are 0 output refl) (all_kept outputs (λ j x at. are (suc j) x at))

-- or none
pub none_kept : (outputs : List OutputValue) → AreKeeping Dropped outputs → filter_map (λ (output : OutputValue). output.text) outputs ≡ []
none_kept [] are = refl
none_kept (output ∷ outputs) are =
    cons_dropped output.text _ (are 0 output refl) (none_kept outputs (λ j x at. are (suc j) x at))

-- what is kept, where it is known if it is
pub kept_is : (text : Option (List ℕ)) (capture : List ℕ) → is_some text ≡ true → IfSome text (λ bytes. bytes ≡ capture) → unwrap_or text [] ≡ capture
kept_is None capture kept is = absurd (cc)
kept_is (Some bytes) capture kept is = is
