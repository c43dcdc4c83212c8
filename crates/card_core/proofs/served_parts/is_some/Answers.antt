use Rattle.std.proofs.Common.{◌≡◌, ◌∙◌, ◌⊎◌, ◌^◌, ◌<◌, ℕ, Bool, true, false, not, Option, Some, None, is_some, sym, subst, IfSome, IsNone, refl}
use Rattle.rotating_pick.specs.PortSets.{Has, HasSeveral}
use Rattle.rotating_pick.specs.declared.kinds.Kind.TheVariants.{Uni, Multi}
use Rattle.rotating_pick.proofs.Bits.{zero-no_members}
use Rattle.slot_match.proofs.Sets.{Has-some, zero-has}
use Rattle.std.proofs.lemmas.Nat.Bits.{bit_at-pow_same}
use Rattle.card_core.specs.Posts.{IsOneFor}
use Rattle.rotating_pick.proofs.Members.{only_member}
use Rattle.card_core.proofs.Sets.{several-of}
use Rattle.card_core.proofs.served_parts.is_some.Goals as goal

one_at : (outputs : ℕ) (port : Option ℕ) → IfSome port (λ j. (j < 64) × (outputs ≡ 2 ^ j)) → is_some port ≡ true → ((j : ℕ) × Has outputs j)
    × IsOneFor Uni outputs
one_at outputs None one some = absurd (cc)
one_at outputs (Some port) one some = (
  (port, subst (λ s. Has s port) (sym one.1) (bit_at-pow_same port)),
  λ kind j k a b. only_member port j (subst (λ s. Has s j) one.1 a) ∙ sym (only_member port k (subst (λ s. Has s k) one.1 b)),
)

some_at : (outputs : ℕ) (port : Option ℕ) → (IsNone port → (outputs ≡ 0) ⊎ HasSeveral outputs) → ((j : ℕ) × Has outputs j)
    → ((j k : ℕ) → Has outputs j → Has outputs k → j ≡ k) → is_some port ≡ true
some_at outputs None none some one =
    let s = several-of outputs (none refl) (λ empty. zero-has outputs some.0 empty some.1) in
    absurd (s.differ (one s.one s.other s.has_one s.has_other))
some_at outputs (Some port) none some one = refl

pub returns-in-Uni : goal.returns-in-Uni
returns-in-Uni c = (
  λ yes_. subst (λ k. ((j : ℕ) × Has c.args.outputs j) × IsOneFor k c.args.outputs) (sym c.in-Uni.is)
      (one_at c.args.outputs c.only.result c.only.ensures.one (sym c.is_some.ensures ∙ yes_)),
  λ both. c.is_some.ensures ∙ some_at c.args.outputs c.only.result c.only.ensures.none.0 both.0 (both.1 c.in-Uni.is),
)

multi_some : (outputs : ℕ) (b : Bool) → outputs < 2 ^ 64 → (b ≡ true → outputs ≡ 0) → (outputs ≡ 0 → b ≡ true)
    → (not b ≡ true → ((j : ℕ) × Has outputs j) × IsOneFor Multi outputs) × (((j : ℕ) × Has outputs j) → not b ≡ true)
multi_some outputs true small none empty = (λ e. absurd (cc), λ some. absurd (zero-has outputs some.0 (none refl) some.1))
multi_some outputs false small none empty = (
  λ e. (Has-some outputs small (λ no_members. let z = zero-no_members outputs no_members in let t = empty z in absurd (cc)), λ kind. absurd (cc)),
  λ some. refl,
)

pub returns-in-Multi : goal.returns-in-Multi
returns-in-Multi c =
    let m = multi_some c.args.outputs c.is_empty.result c.ranges.outputs.fits c.is_empty.ensures.zero.0 c.is_empty.ensures.zero.1 in
    (λ yes_. subst (λ k. ((j : ℕ) × Has c.args.outputs j) × IsOneFor k c.args.outputs) (sym c.in-Multi.is) (m.0 yes_), λ both. m.1 both.0)
