-- Keeping by an input's own part is keeping over the match.
use Rattle.std.proofs.Common.{◌≡◌, ℕ, ◌↔◌, List, Option, None, Some, refl, sym}
use Rattle.rotating_pick.specs.declared.kinds.Kind.{Kind}
use Rattle.rotating_pick.specs.declared.kinds.Kind.TheVariants.{Uni, Multi}
use Rattle.slot_match.specs.declared.rows.Row.{Row}
use Rattle.slot_match.specs.declared.matching.Fed.{Fed}
use Rattle.slot_match.specs.declared.matching.Served.{Served}
use Rattle.slot_match.specs.Matches.{Serves, IsMatch}
use Rattle.slot_match.specs.Parts.{served_of}
use Rattle.slot_match.specs.Keeping.{KeepsRest, Keeps, Gives}
use Rattle.slot_match.proofs.Pairs.{Serves-along}
use Rattle.slot_match.proofs.ServedParts.{served_of-is, served_of-none}

-- what is served is the same where the same is given
pub KeepsRest-along : (P Q : ℕ → ℕ → Kind → Type 0) (old new : Row) → ((j level : ℕ) (kind : Kind) → P j level kind ↔ Q j level kind) → KeepsRest P old new
    → KeepsRest Q old new
KeepsRest-along P Q old new same keeps =
    record {
      uni = λ level j named not_given. keeps.uni level j named (λ p. not_given ((same j level Uni).0 p));
      multi = λ level j named not_given y.
          let rest = keeps.multi level j named (λ p. not_given ((same j level Multi).0 p)) y in
          (λ h. let p = rest.0 h in (p.0, λ q. p.1 ((same y level Multi).1 q)), λ p. rest.1 (p.0, λ q. p.1 ((same y level Multi).0 q)));
    }

-- the part gives what the match serves
pub Gives-iff_serves : (n : ℕ) (matched : List (Option Fed)) → IsMatch n matched → (i j level : ℕ) (kind : Kind) → Gives (served_of matched i) j level kind
    ↔ Serves matched i j level kind
Gives-iff_serves n matched whole i j level kind = go (served_of matched i) refl where
  go : (part : Option Served) → served_of matched i ≡ part → Gives part j level kind ↔ Serves matched i j level kind
  go None e = (λ given. absurd given, λ s. absurd (served_of-none n matched whole i e j level kind s))
  go (Some part) e =
      let served = served_of-is n matched whole i part e in (
        λ given. Serves-along matched i j part.level level part.kind kind (sym given.1) (sym given.2) ((served.outputs j).0 given.0),
        λ s. let only = served.only j level kind s in
            ((served.outputs j).1 (Serves-along matched i j level part.level kind part.kind only.0 only.1 s), only.0, only.1),
      )

-- keeping by the part is keeping over the match
pub KeepsRest-iff_keeps : (n : ℕ) (matched : List (Option Fed)) → IsMatch n matched → (i : ℕ) (old new : Row)
    → KeepsRest (Gives (served_of matched i)) old new ↔ Keeps matched i old new
KeepsRest-iff_keeps n matched whole i old new = (
  KeepsRest-along (Gives (served_of matched i)) (Serves matched i) old new (Gives-iff_serves n matched whole i),
  KeepsRest-along (Serves matched i) (Gives (served_of matched i)) old new
      (λ j level kind. let e = Gives-iff_serves n matched whole i j level kind in (e.1, e.0)),
)
