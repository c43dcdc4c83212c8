-- A queue waits in a slot exactly where the row names the output and the match does not serve it.
use Rattle.std.proofs.Common.{◌≡◌, ℕ, ◌+◌, ◌↔◌, ◌⊎◌, ◌==◌, ◌++◌, not, Bool, true, false, if◌then◌else◌, List, [], ◌∷◌, Option, None, Some, refl}
use Rattle.std.proofs.Common.{sym, ap, inl, inr}
use Rattle.std.specs.Prelude.{IsNone, IfSome}
use Rattle.std.specs.Bool.{Decides}
use Rattle.std.specs.Int.{bit_at}
use Rattle.std.proofs.lemmas.Bool.Decides.{same_from_decides, Decides-eqb, Decides-and, Decides-not, Decides-like}
use Rattle.rotating_pick.specs.PortSets.{Has}
use Rattle.rotating_pick.specs.declared.kinds.Kind.{Kind}
use Rattle.rotating_pick.specs.declared.kinds.Kind.TheVariants.{Uni}
use Rattle.slot_match.specs.declared.rows.Row.{Row}
use Rattle.slot_match.specs.declared.matching.Fed.{Fed}
use Rattle.slot_match.specs.declared.matching.Served.{Served}
use Rattle.slot_match.specs.Rows.{Names, row_of}
use Rattle.slot_match.specs.Matches.{Serves, fed_of, IsFreeInput, IsServed}
use Rattle.slot_match.specs.Keeping.{Gives}
use Rattle.slot_match.proofs.Pairs.{Serves-along}
use Rattle.eslip_rounds.specs.Decisions.{is_named, is_fed}
use Rattle.eslip_rounds.proofs.Testing.{Decides-named, Decides-fed}
use Rattle.service_bound.specs.Waits.{NotedSlot, is_waiting, wait_in}
use Rattle.service_bound.specs.MeterSteps.{was_waiting}

pub Decides-waiting : (slot : NotedSlot) (i j level : ℕ)
    → Decides (is_waiting slot i j level) (Names (row_of slot.rows i) level Uni j × (Serves slot.matched i j level Uni → ⊥))
Decides-waiting slot i j level =
    let named = is_named (row_of slot.rows i) level Uni j in
    let served = is_fed i level Uni (fed_of slot.matched j) in
    Decides-and named (not served) (Decides-named (row_of slot.rows i) level Uni j) (Decides-not served (Decides-fed i level Uni (fed_of slot.matched j)))

-- the queue waits and its wait is one longer, or its wait is 0
pub wait_in-or : (slot : NotedSlot) (before i j level : ℕ)
    → (Names (row_of slot.rows i) level Uni j × (Serves slot.matched i j level Uni → ⊥) × (wait_in slot before i j level ≡ before + 1))
    ⊎ (wait_in slot before i j level ≡ 0)
wait_in-or slot before i j level = go (is_waiting slot i j level) refl where
  go : (b : Bool) → is_waiting slot i j level ≡ b
      → (Names (row_of slot.rows i) level Uni j × (Serves slot.matched i j level Uni → ⊥) × (wait_in slot before i j level ≡ before + 1))
      ⊎ (wait_in slot before i j level ≡ 0)
  go true e = let waits = (Decides-waiting slot i j level).0 e in inl (waits.0, waits.1, ap (λ b. if b then before + 1 else 0) e)
  go false e = inr (ap (λ b. if b then before + 1 else 0) e)

-- the last of some slots and one more is that one
pub was_waiting-more : (slots : List NotedSlot) (slot : NotedSlot) (i j level : ℕ) → was_waiting (slots ++ slot ∷ []) i j level ≡ is_waiting slot i j level
was_waiting-more [] slot i j level = refl
was_waiting-more (first ∷ []) slot i j level = refl
was_waiting-more (first ∷ next ∷ slots) slot i j level = was_waiting-more (next ∷ slots) slot i j level

-- an input's part gives what the match serves
pub Gives-iff_serves : (matched : List (Option Fed)) (i j level : ℕ) (kind : Kind) (part : Option Served) → IsNone part ↔ IsFreeInput matched i
    → IfSome part (IsServed matched i) → Gives part j level kind ↔ Serves matched i j level kind
Gives-iff_serves matched i j level kind None free served = (λ given. absurd given, λ s. absurd (free.0 refl j level kind s))
Gives-iff_serves matched i j level kind (Some part) free served = (
  λ given. Serves-along matched i j part.level level part.kind kind (sym given.1) (sym given.2) ((served.outputs j).0 given.0),
  λ s. let only = served.only j level kind s in
      ((served.outputs j).1 (Serves-along matched i j level part.level kind part.kind only.0 only.1 s), only.0, only.1),
)

-- what is posted and not given is what waits
pub member-waits : (rows : List Row) (matched : List (Option Fed)) (i j level rest : ℕ) (Given : Type 0) → Has rest j
    ↔ (Names (row_of rows i) level Uni j × (Given → ⊥)) → Given ↔ Serves matched i j level Uni
    → (bit_at rest j == 1) ≡ is_waiting (record { rows = rows; matched = matched }) i j level
member-waits rows matched i j level rest Given left serves =
    same_from_decides (bit_at rest j == 1) (is_waiting (record { rows = rows; matched = matched }) i j level)
    (Decides-like (bit_at rest j == 1) (λ has. let p = left.0 has in (p.0, λ s. p.1 (serves.1 s))) (λ p. left.1 (p.0, λ has. p.1 (serves.0 has)))
    (Decides-eqb (bit_at rest j) 1))
    (Decides-waiting (record { rows = rows; matched = matched }) i j level)
