-- Captures of one link type, and the traffic of all of them.
use Rattle.std.proofs.Common.{◌≡◌, ◌∙◌, ◌||◌, ℕ, zero, suc, ◌+◌, ◌*◌, ◌<◌, ◌≤◌, Bool, true, false, List, [], ◌∷◌, length, slice_index_or, Option, None}
use Rattle.std.proofs.Common.{Some, if◌then◌else◌, refl, ap, sym, subst, arith}
use Rattle.std.specs.Prelude.{map, find, not, ◌==◌, option_map, All}
use Rattle.std.proofs.lemmas.Bool.Decides.{nat_tests}
use Rattle.std.proofs.lemmas.Simd.{map-map}
use Rattle.pcap_records.proofs.Once.{link_once}
use Rattle.line_pace.specs.declared.pace.Pace.{Pace}
use Rattle.line_pace.specs.Arrivals.{base_of}
use Rattle.pcap_records.specs.declared.capture.Capture.{Capture}
use Rattle.pcap_records.specs.declared.capture.Stored.{Stored}
use Rattle.pcap_records.specs.declared.link.Link.{Link}
use Rattle.pcap_records.specs.Format.{link_type}
use Rattle.pcap_records.specs.Packets.{packets_of}
use Rattle.forward_table.specs.declared.route_lines.RouteLine.{RouteLine}
use Rattle.switch_words.specs.declared.job.Speed.{Speed}
use Rattle.switch_plan.specs.declared.fault.PlanFault.TheVariants.{MixedLink}
use Rattle.switch_plan.specs.Traffic.{CaptureFile, file_of, is_nano, port_traffic, pace_of, traffic_of}
use Rattle.switch_plan.specs.Refusals.{first_link, mixed_links}
use Rattle.switch_plan.specs.ReadingSteps.{IsCaptureOf}
use Rattle.switch_plan.specs.PortSteps.{CanBePlanned, traffic_at}
use Rattle.switch_plan.proofs.Leasts.{all_come}

not_found : {A B : Type 0} (f : A → B) (found : Option A) → option_map f found ≡ None → found ≡ None
not_found f None none = refl
not_found f (Some x) none = absurd (cc)

-- of a list in which none is found, the first does not pass, and none is found after it
pub none_first : {A : Type 0} (passes : Bool) (x : A) (rest : Option A) → (if passes then Some x else rest) ≡ None → (passes ≡ false) × (rest ≡ None)
none_first true x rest none = absurd (cc)
none_first false x rest none = (refl, none)

same_type : (n m : ℕ) → not (n == m) ≡ false → n ≡ m
same_type n m same = grind (arith, nat_tests)

links_alike : (link : Link) (captures : List Capture)
    → find (λ other. not (other == link_type link)) (map (λ capture. link_type capture.link) (map file_of captures)) ≡ None
    → (k : ℕ) (d : Capture) → k < length captures → (slice_index_or captures k d).link ≡ link
links_alike link [] none k d inside = absurd (omega arith)
links_alike link (capture ∷ captures) none zero d inside =
    link_once capture.link link
    (same_type (link_type capture.link) (link_type link)
    (none_first (not (link_type capture.link == link_type link)) (link_type capture.link)
    (find (λ other. not (other == link_type link)) (map (λ c. link_type c.link) (map file_of captures))) none).0)
links_alike link (capture ∷ captures) none (suc k) d inside =
    links_alike link captures
    (none_first (not (link_type capture.link == link_type link)) (link_type capture.link)
    (find (λ other. not (other == link_type link)) (map (λ c. link_type c.link) (map file_of captures))) none).1 k d (omega arith)

-- where no two link types differ, all are the first
pub one_link : (captures : List Capture) → mixed_links (map file_of captures) ≡ None
    → All (λ (capture : Capture). capture.link ≡ first_link (map file_of captures)) captures
one_link captures unmixed =
    let link = first_link (map file_of captures) in
    links_alike link captures
    (not_found (MixedLink (link_type link)) (find (λ other. not (other == link_type link)) (map (λ c. link_type c.link) (map file_of captures))) unmixed)

traffic_alike : (table : List RouteLine) (pace : Pace) (link : Link) (captures : List Capture)
    → ((k : ℕ) (d : Capture) → k < length captures → (slice_index_or captures k d).link ≡ link)
    → map (traffic_at table pace) captures ≡ map (λ (capture : Capture). port_traffic table link pace (packets_of capture)) captures
traffic_alike table pace link [] alike = refl
traffic_alike table pace link (capture ∷ captures) alike =
    ap (λ l. port_traffic table l pace (packets_of capture) ∷ map (traffic_at table pace) captures) (alike 0 capture (omega arith))
    ∙ ap (λ ts. port_traffic table link pace (packets_of capture) ∷ ts) (traffic_alike table pace link captures (λ k d inside. alike (suc k) d (omega arith)))

-- then the traffic of each by its own link type is that of all by the first
pub traffic_same : (table : List RouteLine) (speed : Speed) (pace : Pace) (captures : List Capture) → pace ≡ pace_of speed (map file_of captures)
    → mixed_links (map file_of captures) ≡ None
    → map (traffic_at table pace) captures ≡ traffic_of table (first_link (map file_of captures)) speed (map file_of captures)
traffic_same table speed pace captures pace_is unmixed =
    let link = first_link (map file_of captures) in
    traffic_alike table pace link captures (one_link captures unmixed)
    ∙ ap (λ p. map (λ (capture : Capture). port_traffic table link p (packets_of capture)) captures) pace_is
    ∙ sym (map-map (λ (file : CaptureFile). port_traffic table link (pace_of speed (map file_of captures)) file.packets) file_of captures)

or_left : (a b : Bool) → (a || b) ≡ false → a ≡ false
or_left true b none = none
or_left false b none = refl

or_right : (a b : Bool) → (a || b) ≡ false → b ≡ false
or_right true b none = absurd (cc)
or_right false b none = none

-- where none counts in nanoseconds, each counts in microseconds
pub all_micro : (captures : List Capture) → is_nano (map file_of captures) ≡ false → All (λ (capture : Capture). capture.nano ≡ false) captures
all_micro [] none k d inside = absurd (omega arith)
all_micro (capture ∷ captures) none zero d inside = or_left capture.nano (is_nano (map file_of captures)) none
all_micro (capture ∷ captures) none (suc k) d inside = all_micro captures (or_right capture.nano (is_nano (map file_of captures)) none) k d (omega arith)

-- captures that were read can be planned at the pace of a job
pub can_be_planned : (speed : Speed) (pace : Pace) (captures : List Capture) → pace ≡ pace_of speed (map file_of captures)
    → All (λ (capture : Capture). IsCaptureOf capture.bytes.items capture) captures → All (CanBePlanned pace) captures
can_be_planned speed pace captures pace_is read k d inside = record {
  read = read k d inside;
  times = subst (λ p. All (λ (s : Stored). base_of p ≤ s.seconds * 1000000000 + s.nanos) (slice_index_or captures k d).packets.items) (sym pace_is)
      (all_come speed captures k d inside);
}
