-- How many packets go nowhere, and why.
use Rattle.std.proofs.Common.{◌≡◌, ◌∙◌, ℕ, ◌+◌, ◌<◌, Bool, true, false, cond, List, [], ◌∷◌, length, Option, None, Some, refl, ap, sym, subst, arith}
use Rattle.std.proofs.Common.{if◌then◌else◌}
use Rattle.std.specs.Prelude.{sum_by, count_by, not, is_none, ◌==◌, ◌&&◌, option_map}
use Rattle.std.proofs.lemmas.Bool.Decides.{nat_tests}
use Rattle.std.proofs.lemmas.List.Sums.{sum_by-cons}
use Rattle.std.proofs.lemmas.Option.{none-some, same_Some}
use Rattle.std.proofs.lemmas.List.{length-map}
use Rattle.std.proofs.Math.ListN.{get_or-map as get_or-map_same}
use Rattle.pcap_records.specs.declared.link.Link.{Link}
use Rattle.pcap_records.specs.Packets.{Packet}
use Rattle.forward_table.specs.declared.route_lines.Route.{Route}
use Rattle.forward_table.specs.declared.route_lines.RouteLine.{RouteLine}
use Rattle.forward_table.specs.Routes.{IsRouteOf, AreRoutesOf}
use Rattle.forward_table.specs.Routing.{serving_line, route_of}
use Rattle.forward_table.proofs.Serving.{Contains-serving}
use Rattle.frame_fields.specs.Destination.{destination_of}
use Rattle.switch_plan.specs.Traffic.{is_oversize, is_unrouted, route_for, fan_of}

-- the route of an address is one of the table's
routed_by : (n : ℕ) (table : List RouteLine) (address : Option ℕ) (route : Route) (served : Option RouteLine) → AreRoutesOf n table
    → serving_line table address ≡ served → option_map (λ (line : RouteLine). line.route) served ≡ Some route → IsRouteOf n route
routed_by n table address route None routes is e = absurd (none-some route e)
routed_by n table address route (Some line) routes is e =
    let there = Contains-serving table address line is in
    let k = there.0 in
    let inside : k < length table = let h = there.1 in omega (arith, length-map table (λ (l : RouteLine). l.route)) in
    subst (IsRouteOf n) (sym (get_or-map_same (λ (l : RouteLine). l.route) table k line) ∙ there.2 ∙ same_Some line.route route e) (routes k line inside)

pub routed : (n : ℕ) (table : List RouteLine) (address : Option ℕ) (route : Route) → AreRoutesOf n table → route_of table address ≡ Some route
    → IsRouteOf n route
routed n table address route routes e = routed_by n table address route (serving_line table address) routes refl e

aside_one : (long : Bool) (route : Option Route) → ((r : Route) → route ≡ Some r → 0 < r.fan)
    → cond (fan_of (if long then None else route) == 0) 1 0 ≡ cond long 1 0 + cond (not long && is_none route) 1 0
aside_one true route some = refl
aside_one false None some = refl
aside_one false (Some route) some =
    let goes = some route refl in
    let no : (route.fan == 0) ≡ false = grind (arith, nat_tests) in
    rw no refl

-- of some packets those that go nowhere are those too long and those with no route
pub aside_split : (n : ℕ) (table : List RouteLine) (link : Link) (packets : List Packet) → AreRoutesOf n table
    → count_by (λ p. fan_of (route_for table link p.bytes) == 0) packets ≡ count_by (λ p. is_oversize p.bytes) packets + count_by
    (λ p. is_unrouted table link p.bytes) packets
aside_split n table link [] routes = refl
aside_split n table link (packet ∷ packets) routes =
    let aside : Packet → ℕ = λ p. cond (fan_of (route_for table link p.bytes) == 0) 1 0 in
    let long : Packet → ℕ = λ p. cond (is_oversize p.bytes) 1 0 in
    let lost : Packet → ℕ = λ p. cond (is_unrouted table link p.bytes) 1 0 in
    let here : aside packet ≡ long packet + lost packet =
    aside_one (is_oversize packet.bytes) (route_of table (destination_of link packet.bytes))
    (λ r e. (routed n table (destination_of link packet.bytes) r routes e).fan.some) in
    let more = aside_split n table link packets routes in
    sum_by-cons aside packet packets
    ∙ ap (λ m. m + sum_by aside packets) here
    ∙ ap (λ m. long packet + lost packet + m) more
    ∙ regroup (long packet) (lost packet) (sum_by long packets) (sum_by lost packets)
    ∙ ap (λ m. m + (lost packet + sum_by lost packets)) (sym (sum_by-cons long packet packets))
    ∙ ap (λ m. sum_by long (packet ∷ packets) + m) (sym (sum_by-cons lost packet packets))
  where
    regroup : (a b c d : ℕ) → a + b + (c + d) ≡ a + c + (b + d)
    regroup a b c d = omega arith
