-- Postings: slots in which one input and input 0 ask output 0, and each one output beside it.
use Rattle.std.proofs.Common.{◌≡◌, ℕ, zero, suc, ◌<◌, ◌⊎◌, ◌==◌, ◌&&◌, ◌||◌, Bool, List, ◌∷◌, map, replicate, refl, subst, sym, inl, inr, arith}
use Rattle.std.specs.Bool.{Decides}
use Rattle.std.specs.List.{range_with_len}
use Rattle.std.proofs.lemmas.Bool.Decides.{Decides-eqb, Decides-and, Decides-or}
use Rattle.std.proofs.lemmas.List.FromFn.{length-map-range_with_len, get_or-map-range_with_len}
use Rattle.rotating_pick.proofs.Tables.{no_members}
use Rattle.rotating_pick.specs.declared.kinds.Kind.{Kind}
use Rattle.rotating_pick.specs.declared.kinds.Kind.TheVariants.{Uni, Multi}
use Rattle.rotating_pick.specs.declared.limits.TheConstants.{LEVELS}
use Rattle.slot_match.specs.declared.rows.Row.{Row}
use Rattle.slot_match.specs.Rows.{Names, row_of, no_row, AreWithin}
use Rattle.slot_match.specs.Parts.{set_of}
use Rattle.slot_match.proofs.Sets.{Has-set_of}
use Rattle.service_bound.specs.Windows.{IsClean, IsWithoutMulticast}

-- An input, the output beside output 0 that it asks, and the one that input 0 asks; 0 for none. One input
-- more asks for one output; input 0 for output 0 where there is none.
pub record Posting : Type 0 where
  pub input : ℕ
  pub beside : ℕ
  pub own : ℕ
  pub other : ℕ
  pub output : ℕ

-- whether input i asks output j
abbrev is_posted : Posting → ℕ → ℕ → Bool
is_posted p i j = (i == p.input && (j == 0 || j == p.beside)) || ((i == 0 && (j == 0 || j == p.own)) || (i == p.other && j == p.output))

abbrev pub IsPosted : Posting → ℕ → ℕ → Type 0
IsPosted p i j = ((i ≡ p.input) × ((j ≡ 0) ⊎ (j ≡ p.beside))) ⊎ (((i ≡ 0) × ((j ≡ 0) ⊎ (j ≡ p.own))) ⊎ ((i ≡ p.other) × (j ≡ p.output)))

Decides-posted : (p : Posting) (i j : ℕ) → Decides (is_posted p i j) (IsPosted p i j)
Decides-posted p i j =
    Decides-or (i == p.input && (j == 0 || j == p.beside)) ((i == 0 && (j == 0 || j == p.own)) || (i == p.other && j == p.output))
    (Decides-and (i == p.input) (j == 0 || j == p.beside) (Decides-eqb i p.input)
    (Decides-or (j == 0) (j == p.beside) (Decides-eqb j 0) (Decides-eqb j p.beside)))
    (Decides-or (i == 0 && (j == 0 || j == p.own)) (i == p.other && j == p.output)
    (Decides-and (i == 0) (j == 0 || j == p.own) (Decides-eqb i 0) (Decides-or (j == 0) (j == p.own) (Decides-eqb j 0) (Decides-eqb j p.own)))
    (Decides-and (i == p.other) (j == p.output) (Decides-eqb i p.other) (Decides-eqb j p.output)))

-- input 0 always asks output 0
pub zero_posted : (p : Posting) → IsPosted p 0 0
zero_posted p = inr (inl (refl, inl refl))

-- the row of input i: all at level 0
row_at : ℕ → Posting → ℕ → Row
row_at n p i = record { uni = set_of n (is_posted p i) ∷ replicate 3 0; multi = replicate LEVELS 0 }

-- the rows of the posting
pub rows_of : ℕ → Posting → List Row
rows_of n p = map (row_at n p) (range_with_len 0 n)

abbrev PostedAt : ℕ → Posting → ℕ → ℕ → ℕ → Kind → Type 0
PostedAt n p i j level kind = (level ≡ 0) × (kind ≡ Uni) × (j < n) × IsPosted p i j

posted_at : (n : ℕ) (p : Posting) (i j level : ℕ) (kind : Kind) → Names (row_at n p i) level kind j → PostedAt n p i j level kind
unfolding row_at
posted_at n p i j zero Uni named = let has = (Has-set_of n (is_posted p i) j).0 named in (refl, refl, has.0, (Decides-posted p i j).0 has.1)
posted_at n p i j (suc level) Uni named = absurd (no_members 3 level j named)
posted_at n p i j level Multi named = absurd (no_members LEVELS level j named)

named_at : (n : ℕ) (p : Posting) (i j : ℕ) → j < n → IsPosted p i j → Names (row_at n p i) 0 Uni j
unfolding row_at
named_at n p i j j_in is = (Has-set_of n (is_posted p i) j).1 (j_in, (Decides-posted p i j).1 is)

row_is : (n : ℕ) (p : Posting) (i : ℕ) → i < n → row_of (rows_of n p) i ≡ row_at n p i
unfolding rows_of
row_is n p i i_in = get_or-map-range_with_len (row_at n p) 0 n i i no_row i_in (omega arith)

-- what a row names is what is posted
pub posted : (n : ℕ) (p : Posting) (i j level : ℕ) (kind : Kind) → i < n → Names (row_of (rows_of n p) i) level kind j → (level ≡ 0) × (kind ≡ Uni) × (j < n)
    × IsPosted p i j
posted n p i j level kind i_in named = posted_at n p i j level kind (subst (λ row. Names row level kind j) (row_is n p i i_in) named)

pub names : (n : ℕ) (p : Posting) (i j : ℕ) → i < n → j < n → IsPosted p i j → Names (row_of (rows_of n p) i) 0 Uni j
names n p i j i_in j_in is = subst (λ row. Names row 0 Uni j) (sym (row_is n p i i_in)) (named_at n p i j j_in is)

pub AreWithin-rows : (n : ℕ) (p : Posting) → AreWithin n (rows_of n p)
unfolding rows_of
AreWithin-rows n p =
    record {
      count = length-map-range_with_len (row_at n p) 0 n;
      ports = λ i i_in level j kind named. (posted n p i j level kind i_in named).2;
      levels = λ i i_in level j kind named. let at = (posted n p i j level kind i_in named).0 in omega arith;
    }

pub IsClean-rows : (n : ℕ) (p : Posting) → IsClean n 0 (rows_of n p)
IsClean-rows n p i better j kind i_in less named = absurd (omega arith)

pub IsWithoutMulticast-rows : (n : ℕ) (p : Posting) → IsWithoutMulticast n 0 (rows_of n p)
IsWithoutMulticast-rows n p i j i_in named = let kind = (posted n p i j 0 Multi i_in named).1 in absurd (cc)
