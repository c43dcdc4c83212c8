-- Each test of a decision is true exactly where its definition holds.
use Rattle.std.proofs.Common.{◌≡◌, ℕ, zero, suc, ◌+◌, ◌<◌, ◌≤◌, ◌==◌, ◌⊎◌, ◌∙◌, ◌&&◌, ◌||◌, Bool, true, false, not, List, [], ◌∷◌, Option, None, Some}
use Rattle.std.proofs.Common.{refl, ap, inl, inr, arith}
use Rattle.std.specs.Bool.{Decides}
use Rattle.std.specs.List.{list_any, range_with_len}
use Rattle.std.proofs.lemmas.Bool.{cases_eq, eq-eqb}
use Rattle.std.proofs.lemmas.Bool.Decides.{Decides-eqb, Decides-and, Decides-or, Decides-not, Decides-like}
use Rattle.std.proofs.lemmas.Option.{same_Some}
use Rattle.rotating_pick.specs.declared.kinds.Kind.{Kind}
use Rattle.rotating_pick.specs.declared.kinds.Kind.TheVariants.{Uni, Multi}
use Rattle.rotating_pick.specs.declared.limits.TheConstants.{LEVELS}
use Rattle.slot_match.specs.declared.rows.Row.{Row}
use Rattle.slot_match.specs.declared.matching.Fed.{Fed}
use Rattle.slot_match.specs.Rows.{Names, row_of}
use Rattle.slot_match.specs.Matches.{fed_of, Serves, IsFreeInput, IsMatch}
use Rattle.slot_match.specs.Parts.{is_from}
use Rattle.slot_match.proofs.Pairs.{same_fed, Serves-alike}
use Rattle.slot_match.proofs.ServedParts.{is_from-some}
use Rattle.eslip_rounds.specs.Rounds.{Asks, GoesOn, Requests}
use Rattle.eslip_rounds.specs.Decisions.{ports, is_kind, is_named, is_fed, is_asked, is_going_on, is_request}

-- a test of some port
module _ (p : ℕ → Bool) (P : ℕ → Type 0) (each : (k : ℕ) → Decides (p k) (P k)) where
  any_from : (a n : ℕ) → Decides (list_any p (range_with_len a n)) ((k : ℕ) × (a ≤ k) × (k < a + n) × P k)
  any_from a zero = (λ e. absurd (cc), λ f. let low = f.1 in let high = f.2 in absurd (omega arith))
  any_from a (suc n) =
      let rest = any_from (a + 1) n in
      Decides-like (p a || list_any p (range_with_len (a + 1) n))
      (λ s. elim s [ inl here ↦ (a, omega arith, omega arith, here) | inr f ↦ let low = f.1 in let high = f.2 in (f.0, omega arith, omega arith, f.3) ])
      (λ f. let low = f.1 in let high = f.2 in split a n f.0 low high f.3)
      (Decides-or (p a) (list_any p (range_with_len (a + 1) n)) (each a) rest) where
        split : (a n k : ℕ) → a ≤ k → k < a + suc n → P k → P a ⊎ ((k : ℕ) × (a + 1 ≤ k) × (k < (a + 1) + n) × P k)
        split a n k low high h = elim (cases_eq k a) [ inl same ↦ inl (rw (← same) h) | inr apart ↦ inr (k, omega arith, omega arith, h) ]

  pub any_port : (n : ℕ) → Decides (list_any p (ports n)) ((k : ℕ) × (k < n) × P k)
  any_port n = Decides-like (list_any p (ports n)) (λ f. let high = f.2 in (f.0, omega arith, f.3))
      (λ f. let high = f.1 in (f.0, omega arith, omega arith, f.2)) (any_from 0 n)

-- a test of what feeds some output
pub any_output : (p : Option Fed → Bool) → p None ≡ false → (matched : List (Option Fed))
    → Decides (list_any p matched) ((j : ℕ) × (p (fed_of matched j) ≡ true))
any_output p none [] = (λ e. absurd (cc), λ f. let h = f.1 in absurd (cc))
any_output p none (x ∷ xs) =
    Decides-like (p x || list_any p xs) (λ s. elim s [ inl here ↦ (zero, here) | inr f ↦ (suc f.0, f.1) ]) (λ f. split f.0 f.1)
    (Decides-or (p x) (list_any p xs) (λ h. h, λ h. h) (any_output p none xs)) where
      split : (j : ℕ) → p (fed_of (x ∷ xs) j) ≡ true → (p x ≡ true) ⊎ ((j : ℕ) × (p (fed_of xs j) ≡ true))
      split zero h = inl h
      split (suc j) h = inr (j, h)

pub Decides-kind : (a b : Kind) → Decides (is_kind a b) (a ≡ b)
Decides-kind Uni Uni = (λ e. refl, λ e. refl)
Decides-kind Uni Multi = (λ e. absurd (cc), λ e. absurd (cc))
Decides-kind Multi Uni = (λ e. absurd (cc), λ e. absurd (cc))
Decides-kind Multi Multi = (λ e. refl, λ e. refl)

pub Decides-named : (row : Row) (level : ℕ) (kind : Kind) (j : ℕ) → Decides (is_named row level kind j) (Names row level kind j)
Decides-named row level kind j = Decides-eqb _ 1

pub Decides-fed : (i level : ℕ) (kind : Kind) (o : Option Fed) → Decides (is_fed i level kind o) (o ≡ Some (record { input = i; level = level; kind = kind }))
Decides-fed i level kind None = (λ e. absurd (cc), λ e. absurd (cc))
Decides-fed i level kind (Some f) =
    let g : Fed = record { input = i; level = level; kind = kind } in
    Decides-like (is_fed i level kind (Some f)) (λ p. ap Some (same_fed f g p.0 p.1.0 p.1.1))
    (λ e. let same = same_Some f g e in (ap (λ h. h.input) same, (ap (λ h. h.level) same, ap (λ h. h.kind) same)))
    (Decides-and (f.input == i) (f.level == level && is_kind f.kind kind) (Decides-eqb f.input i)
    (Decides-and (f.level == level) (is_kind f.kind kind) (Decides-eqb f.level level) (Decides-kind f.kind kind)))

-- the match has the pair somewhere
pub Decides-paired : (matched : List (Option Fed)) (i level : ℕ) (kind : Kind)
    → Decides (list_any (is_fed i level kind) matched) ((j : ℕ) × Serves matched i j level kind)
Decides-paired matched i level kind =
    Decides-like (list_any (is_fed i level kind) matched) (λ f. (f.0, (Decides-fed i level kind (fed_of matched f.0)).0 f.1))
    (λ f. (f.0, (Decides-fed i level kind (fed_of matched f.0)).1 f.1))
    (any_output (is_fed i level kind) refl matched)

pub Decides-free : (matched : List (Option Fed)) (i : ℕ) → Decides (not (list_any (is_from i) matched)) (IsFreeInput matched i)
Decides-free matched i =
    Decides-like (not (list_any (is_from i) matched)) (λ no j level kind s. no (j, ap (is_from i) s ∙ eq-eqb i i refl))
    (λ free p. let found = is_from-some i (fed_of matched p.0) p.1 in let f = found.0 in
    free p.0 f.level f.kind (found.1 ∙ ap Some (same_fed f (record { input = i; level = f.level; kind = f.kind }) found.2 refl refl)))
    (Decides-not (list_any (is_from i) matched) (any_output (is_from i) refl matched))

pub Decides-asked : (row : Row) (j level : ℕ) (kind : Kind) → level < LEVELS → Decides (is_asked row j level kind) (Asks row j level kind)
Decides-asked row j level kind level_in =
    let Better : ℕ → Type 0 = λ better. Names row better Uni j ⊎ Names row better Multi j in
    let better : ℕ → Bool = λ better. is_named row better Uni j || is_named row better Multi j in
    let dec = any_port better Better
    (λ m. Decides-or (is_named row m Uni j) (is_named row m Multi j) (Decides-named row m Uni j) (Decides-named row m Multi j)) level in
    Decides-like (is_asked row j level kind) (λ p. record { level_in = level_in; named = p.0; best = λ m k lt named. p.1 (m, lt, either_kind m k named) })
    (λ a. (a.named, λ f. elim f.2 [ inl u ↦ a.best f.0 Uni f.1 u | inr v ↦ a.best f.0 Multi f.1 v ]))
    (Decides-and (is_named row level kind j) (not (list_any better (ports level))) (Decides-named row level kind j)
    (Decides-not (list_any better (ports level)) dec)) where
      either_kind : (m : ℕ) (k : Kind) → Names row m k j → Names row m Uni j ⊎ Names row m Multi j
      either_kind m Uni h = inl h
      either_kind m Multi h = inr h

module _ (n : ℕ) (rows : List Row) (before : List (Option Fed)) (whole : IsMatch n before) (i j level : ℕ) (kind : Kind) (level_in : level < LEVELS) where
  Decides-going_on : Decides (is_going_on rows before i j level kind) (GoesOn rows before i j level kind)
  Decides-going_on =
      let on : Bool = list_any (is_fed i level Multi) before in
      let named : Bool = is_named (row_of rows i) level Multi j in
      Decides-like (is_going_on rows before i j level kind)
      (λ p. record {
        level_in = level_in;
        going_on = record { some = p.1.0; only = Serves-alike n before whole i p.1.0.0 level Multi p.1.0.1 };
        multicast = p.0;
        named = p.1.1;
      })
      (λ g. (g.multicast, (g.going_on.some, g.named)))
      (Decides-and (is_kind kind Multi) (on && named) (Decides-kind kind Multi)
      (Decides-and on named (Decides-paired before i level Multi) (Decides-named (row_of rows i) level Multi j)))

  pub Decides-request : Decides (is_request rows before i j level kind) (Requests rows before i j level kind)
  unfolding is_request
  Decides-request =
      let free : Bool = not (list_any (is_from i) before) in
      let asked : Bool = is_asked (row_of rows i) j level kind in
      Decides-or (free && asked) (is_going_on rows before i j level kind)
      (Decides-and free asked (Decides-free before i) (Decides-asked (row_of rows i) j level kind level_in)) Decides-going_on
