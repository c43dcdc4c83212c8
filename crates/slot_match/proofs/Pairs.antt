-- What a match serves: each output once, and each input at one level with one kind.
use Rattle.std.proofs.Common.{◌≡◌, ℕ, ◌<◌, ◌∙◌, List, Option, None, Some, length, refl, sym, ap, subst, inl, inr}
use Rattle.std.proofs.lemmas.Bool.{cases_eq, cases_lt}
use Rattle.std.proofs.lemmas.List.{get_or_past}
use Rattle.std.proofs.lemmas.Option.{same_Some, none-some}
use Rattle.rotating_pick.specs.declared.kinds.Kind.{Kind}
use Rattle.rotating_pick.specs.declared.kinds.Kind.TheVariants.{Uni, Multi}
use Rattle.rotating_pick.proofs.Picking.{Decides}
use Rattle.slot_match.specs.declared.matching.Fed.{Fed}
use Rattle.slot_match.specs.Matches.{fed_of, Serves, IsMatch}

pub kinds_decide : (a b : Kind) → Decides (a ≡ b)
kinds_decide Uni Uni = inl refl
kinds_decide Uni Multi = inr (λ e. cc)
kinds_decide Multi Uni = inr (λ e. cc)
kinds_decide Multi Multi = inl refl

pub same_fed : (f g : Fed) → f.input ≡ g.input → f.level ≡ g.level → f.kind ≡ g.kind → f ≡ g
same_fed f g a b c = λ t. record { input = a t; level = b t; kind = c t }

-- what feeds an output, by its parts
pub Serves-from : (matched : List (Option Fed)) (j : ℕ) (f : Fed) → fed_of matched j ≡ Some f → Serves matched f.input j f.level f.kind
Serves-from matched j f e = e ∙ ap Some (same_fed f (record { input = f.input; level = f.level; kind = f.kind }) refl refl refl)

-- an output is fed once
pub Serves-once : (matched : List (Option Fed)) (j x y l m : ℕ) (k q : Kind) → Serves matched x j l k → Serves matched y j m q → (x ≡ y) × (l ≡ m) × (k ≡ q)
Serves-once matched j x y l m k q s r =
    let a : Fed = record { input = x; level = l; kind = k } in
    let b : Fed = record { input = y; level = m; kind = q } in
    let same : a ≡ b = same_Some a b (sym s ∙ r) in
    (ap (λ f. f.input) same, ap (λ f. f.level) same, ap (λ f. f.kind) same)

-- none but an output of the list is fed
pub fed_of-lt : (matched : List (Option Fed)) (j : ℕ) (f : Fed) → fed_of matched j ≡ Some f → j < length matched
fed_of-lt matched j f e =
    elim (cases_lt j (length matched)) [ inl below ↦ below | inr above ↦ absurd (none-some f (sym (get_or_past matched j None above) ∙ e)) ]

-- all pairs of the input are at the level with the kind
abbrev pub AreAlike : List (Option Fed) → ℕ → ℕ → Kind → Type 0
AreAlike matched i level kind = (k other : ℕ) (again : Kind) → Serves matched i k other again → (other ≡ level) × (again ≡ kind)

-- where one of them is
pub Serves-alike : (n : ℕ) (matched : List (Option Fed)) → IsMatch n matched → (i j level : ℕ) (kind : Kind) → Serves matched i j level kind
    → AreAlike matched i level kind
Serves-alike n matched whole i j level kind s k other again r =
    elim (whole.once i k other again j level kind r s) [
      | inl same ↦
          let P : ℕ → Type 0 = λ x. Serves matched i x other again in
          let once = Serves-once matched j i i other level again kind (subst P same r) s in
          (once.1, once.2)
      | inr alike ↦ (alike.0, alike.1 ∙ sym alike.2)
    ]

-- the same pair at an equal level with an equal kind
pub Serves-along : (matched : List (Option Fed)) (i j l m : ℕ) (a b : Kind) → l ≡ m → a ≡ b → Serves matched i j l a → Serves matched i j m b
Serves-along matched i j l m a b e h s =
    let P : ℕ → Type 0 = λ x. Serves matched i j x a in
    let Q : Kind → Type 0 = λ k. Serves matched i j m k in
    subst Q h (subst P e s)

-- the input is what feeds an output, or it is not
feeds-decides : (o : Option Fed) (i level : ℕ) (kind : Kind) → Decides (o ≡ Some (record { input = i; level = level; kind = kind }))
feeds-decides None i level kind = inr (λ e. cc)
feeds-decides (Some f) i level kind =
    let g : Fed = record { input = i; level = level; kind = kind } in
    elim (cases_eq f.input i) [
      | inr other ↦ inr (λ e. other (ap (λ h. h.input) (same_Some f g e)))
      | inl a ↦ elim (cases_eq f.level level) [
        | inr other ↦ inr (λ e. other (ap (λ h. h.level) (same_Some f g e)))
        | inl b ↦ elim (kinds_decide f.kind kind) [
          | inr other ↦ inr (λ e. other (ap (λ h. h.kind) (same_Some f g e)))
          | inl c ↦ inl (ap Some (same_fed f g a b c))
        ]
      ]
    ]

pub Serves-decides : (matched : List (Option Fed)) (i j level : ℕ) (kind : Kind) → Decides (Serves matched i j level kind)
Serves-decides matched i j level kind = feeds-decides (fed_of matched j) i level kind
