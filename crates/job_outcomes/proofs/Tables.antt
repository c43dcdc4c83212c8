-- A table that was read for a switch has routes of the switch.
use Rattle.std.proofs.Common.{◌≡◌, ◌∙◌, ℕ, zero, suc, ◌+◌, ◌<◌, Bool, true, false, List, [], ◌∷◌, length, get_or, Option, None, Some, Result, Ok, Err}
use Rattle.std.proofs.Common.{refl, ap, sym, subst, arith, inl, inr}
use Rattle.std.specs.Prelude.{find, nat_le, option_and_then}
use Rattle.std.proofs.lemmas.Bool.{cases_eq, leb-false}
use Rattle.std.proofs.lemmas.List.{get_or_default}
use Rattle.std.proofs.lemmas.List.Elements.{All-nil, All-append, All-cons}
use Rattle.rotating_pick.specs.declared.limits.TheConstants.{LEVELS}
use Rattle.rotating_pick.specs.PortSets.{Has}
use Rattle.rotating_pick.proofs.Bits.{IsAmong-from_members, no_member-zero}
use Rattle.forward_table.specs.declared.faults.TableFault.{TableFault}
use Rattle.forward_table.specs.declared.route_lines.RouteLine.{RouteLine}
use Rattle.forward_table.specs.Text.{parts, comma, lines, content}
use Rattle.forward_table.specs.Targets.{has_host_bits}
use Rattle.forward_table.specs.Forms.{numbers_of, set_of, unless_beyond, fan_of, ports_of, form_of, target_of, number_of}
use Rattle.forward_table.specs.Reading.{checked, meaning_of, line_of, route_line_of, route_lines_of, reading_of}
use Rattle.forward_table.specs.Routes.{IsFan, IsRouteOf, AreRoutesOf}
use Rattle.forward_table.proofs.Fans.{named}
use Rattle.forward_table.proofs.FirstFaults.{table_is_told}
use Rattle.forward_table.proofs.Splitting.{some_parts}
use Rattle.switch_plan.proofs.Alike.{none_first}
use Rattle.word_grammar.proofs.Options.{some_is, none_is_some, then_some, map_some}

-- ---- a fan-out
-- where no port is beyond the switch, each is within it
all_within : (n x : ℕ) (ports : List ℕ) → find (λ port. nat_le n port) ports ≡ None → (k : ℕ) → k < length ports → get_or ports k x < n
all_within n x [] none k inside = absurd (omega arith)
all_within n x (port ∷ ports) none zero inside =
    leb-false n port (none_first (nat_le n port) port (find (λ port. nat_le n port) ports) none).0
all_within n x (port ∷ ports) none (suc k) inside =
    all_within n x ports (none_first (nat_le n port) port (find (λ port. nat_le n port) ports) none).1 k (omega arith)

-- a fan-out of some ports is one of the switch
fan_is : (n fan : ℕ) (ports : List ℕ) → 0 < length ports → (o : Option ℕ) → find (λ port. nat_le n port) ports ≡ o → unless_beyond o (set_of ports) ≡ Ok fan
    → IsFan n fan
fan_is n fan ports some (Some beyond) found is = absurd (cc)
fan_is n fan ports some None found is =
    let same : set_of ports ≡ fan = cc in
    let first = get_or ports 0 0 in
    let has : Has (set_of ports) first = (named ports first).1 (0, some, get_or_default ports 0 first 0 some) in
    subst (IsFan n) same (record {
      some = elim (cases_eq (set_of ports) 0) [
        | inl none ↦ absurd (no_member-zero first (subst (λ set. Has set first) none has))
        | inr other ↦ omega arith
      ];
      among = IsAmong-from_members n (set_of ports)
          (λ x member.
          let there = (named ports x).0 member in
          subst (λ port. port < n) there.2 (all_within n x ports found there.0 there.1));
    })

-- there are as many numbers as texts
numbers_long : (texts : List (List ℕ)) (numbers : List ℕ) → numbers_of texts ≡ Some numbers → length numbers ≡ length texts
numbers_long [] numbers is = ap length (sym (some_is is))
numbers_long (text ∷ texts) numbers is =
    let first = then_some (λ n. option_and_then (λ ns. Some (n ∷ ns)) (numbers_of texts)) (number_of text) numbers is in
    let more = then_some (λ ns. Some (first.0 ∷ ns)) (numbers_of texts) numbers first.2 in
    ap length (sym (some_is more.2)) ∙ ap suc (numbers_long texts more.0 more.1)

-- a word of ports that are all of the switch is a fan-out
ports_are : (n fan : ℕ) (word : List ℕ) → ports_of n word ≡ Some (Ok fan) → IsFan n fan
unfolding ports_of
ports_are n fan word is =
    let read = map_some (fan_of n) (numbers_of (parts comma word)) (Ok fan) is in
    let long = numbers_long (parts comma word) read.0 read.1 in
    fan_is n fan read.0 (omega (arith, some_parts comma word)) (find (λ port. nat_le n port) read.0) refl read.2

-- ---- a line
-- the fan-out of a form is one of the switch, where it has no port beyond it
form_fan : (n fan : ℕ) (line : List (List ℕ)) (form : _) → form_of n line ≡ Some form → form.fan ≡ Ok fan → IsFan n fan
unfolding form_of
form_fan n fan [] form is fan_is = absurd (none_is_some is)
form_fan n fan (target ∷ []) form is fan_is = absurd (none_is_some is)
form_fan n fan (target ∷ ports ∷ []) form is fan_is =
    let t = then_some (λ t. option_and_then (λ f. Some (record { target = t; fan = f; level = 0 })) (ports_of n ports)) (target_of target) form is in
    let f = then_some (λ f. Some (record { target = t.0; fan = f; level = 0 })) (ports_of n ports) form t.2 in
    let made : f.0 ≡ form.fan = let same = f.2 in cc in
    ports_are n fan ports (f.1 ∙ ap Some (made ∙ fan_is))
form_fan n fan (target ∷ ports ∷ level ∷ []) form is fan_is =
    let t = then_some (λ t. option_and_then (λ f. option_and_then (λ l. Some (record { target = t; fan = f; level = l })) (number_of level)) (ports_of n ports))
    (target_of target) form is in
    let f = then_some (λ f. option_and_then (λ l. Some (record { target = t.0; fan = f; level = l })) (number_of level)) (ports_of n ports) form t.2 in
    let l = then_some (λ l. Some (record { target = t.0; fan = f.0; level = l })) (number_of level) form f.2 in
    let made : f.0 ≡ form.fan = let same = l.2 in cc in
    ports_are n fan ports (f.1 ∙ ap Some (made ∙ fan_is))
form_fan n fan (target ∷ ports ∷ level ∷ more ∷ rest) form is fan_is = absurd (none_is_some is)

-- the route of a form that was checked is one of the switch
checked_route : (n number : ℕ) (form : _) (line : RouteLine) → checked number form ≡ Ok (Some line) → ((fan : ℕ) → form.fan ≡ Ok fan → IsFan n fan)
    → (bits : Bool) → has_host_bits form.target ≡ bits → (fan : Result ℕ ℕ) → form.fan ≡ fan → (high : Bool) → nat_le LEVELS form.level ≡ high
    → IsRouteOf n line.route
unfolding checked
checked_route n number form line is fans true bits_at fan fan_at high high_at = let fault = rw bits_at at is in absurd (cc)
checked_route n number form line is fans false bits_at (Err port) fan_at high high_at = let fault = rw (bits_at, fan_at) at is in absurd (cc)
checked_route n number form line is fans false bits_at (Ok fan) fan_at true high_at = let fault = rw (bits_at, fan_at, high_at) at is in absurd (cc)
checked_route n number form line is fans false bits_at (Ok fan) fan_at false high_at =
    let made = rw (bits_at, fan_at, high_at) at is in
    let route : line.route ≡ record { fan = fan; level = form.level } = cc in
    subst (IsRouteOf n) (sym route) (record { fan = fans fan fan_at; level = leb-false LEVELS form.level high_at })

-- the route of a line that has a meaning is one of the switch
meaning_route : (n number : ℕ) (word : List ℕ) (more : List (List ℕ)) (line : RouteLine) → meaning_of n number (word ∷ more) ≡ Ok (Some line)
    → (o : Option _) → form_of n (word ∷ more) ≡ o → IsRouteOf n line.route
meaning_route n number word more line is None at = let fault = rw at at is in absurd (cc)
meaning_route n number word more line is (Some form) at =
    checked_route n number form line (rw at at is) (λ fan fan_at. form_fan n fan (word ∷ more) form at fan_at) (has_host_bits form.target) refl
    form.fan refl (nat_le LEVELS form.level) refl

-- so is that of words, of which there may be none
words_route : (n number : ℕ) (words : List (List ℕ)) (line : RouteLine) → meaning_of n number words ≡ Ok (Some line) → IsRouteOf n line.route
words_route n number [] line is = absurd (cc)
words_route n number (word ∷ more) line is = meaning_route n number word more line is (form_of n (word ∷ more)) refl

-- ---- all lines
-- the routes of a line, at most one, are routes of the switch
line_routes : (n number : ℕ) (line : List ℕ) (meaning : Result (Option RouteLine) TableFault) → line_of n number line ≡ meaning
    → AreRoutesOf n (route_line_of n number line)
unfolding line_of
line_routes n number line (Err fault) is = rw is (All-nil (λ found. IsRouteOf n found.route))
line_routes n number line (Ok None) is = rw is (All-nil (λ found. IsRouteOf n found.route))
line_routes n number line (Ok (Some found)) is =
    rw is (All-cons (λ found. IsRouteOf n found.route) found [] (words_route n number (content line) found is) (All-nil (λ found. IsRouteOf n found.route)))

-- and those of all lines
lines_routes : (n number : ℕ) (texts : List (List ℕ)) → AreRoutesOf n (route_lines_of n number texts)
lines_routes n number [] = All-nil (λ found. IsRouteOf n found.route)
lines_routes n number (text ∷ texts) =
    All-append (λ found. IsRouteOf n found.route) (route_line_of n number text) (route_lines_of n (number + 1) texts)
    (line_routes n number text (line_of n number text) refl) (lines_routes n (number + 1) texts)

pub table_routes : (n : ℕ) (text : List ℕ) (table : List RouteLine) → reading_of n text ≡ Ok table → AreRoutesOf n table
table_routes n text table read =
    let is = (table_is_told n text table).0 read in
    subst (AreRoutesOf n) (sym is.lines_are) (lines_routes n 1 (lines text))
