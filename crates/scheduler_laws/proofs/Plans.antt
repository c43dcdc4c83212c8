-- Plans: slots by the requests that stand in them and the pairs that they serve, all of level 0.
use Rattle.std.proofs.Common.{◌≡◌, ℕ, zero, suc, ◌<◌, ◌⊎◌, ◌==◌, ◌&&◌, ◌||◌, Bool, false, List, Option, [], ◌∷◌, map, replicate, refl}
use Rattle.std.proofs.Common.{subst, sym, inl, inr, arith}
use Rattle.std.specs.Bool.{Decides}
use Rattle.std.specs.List.{range_with_len}
use Rattle.std.proofs.lemmas.Bool.Decides.{Decides-eqb, Decides-and, Decides-or}
use Rattle.std.proofs.lemmas.List.FromFn.{length-map-range_with_len, get_or-map-range_with_len}
use Rattle.rotating_pick.specs.declared.kinds.Kind.{Kind}
use Rattle.rotating_pick.specs.declared.kinds.Kind.TheVariants.{Uni, Multi}
use Rattle.rotating_pick.specs.declared.limits.TheConstants.{LEVELS}
use Rattle.rotating_pick.proofs.Tables.{no_members}
use Rattle.slot_match.specs.declared.rows.Row.{Row}
use Rattle.slot_match.specs.Rows.{Names, row_of, no_row, AreWithin}
use Rattle.slot_match.specs.declared.matching.Fed.{Fed}
use Rattle.slot_match.specs.Matches.{Serves}
use Rattle.slot_match.specs.Parts.{set_of}
use Rattle.slot_match.proofs.Sets.{Has-set_of}
use Rattle.service_bound.specs.Windows.{IsClean, IsWithoutMulticast}

-- an input and an output
pub record Pair : Type 0 where
  pub input : ℕ
  pub output : ℕ

-- a pair of them
abbrev pub pair : ℕ → ℕ → Pair
pair i j = record { input = i; output = j }

-- input i and output j are one of the pairs
abbrev pub In : ℕ → ℕ → List Pair → Type 0
In i j [] = ⊥
In i j (p ∷ ps) = ((i ≡ p.input) × (j ≡ p.output)) ⊎ In i j ps

-- whether they are
abbrev pub is_in : ℕ → ℕ → List Pair → Bool
is_in i j [] = false
is_in i j (p ∷ ps) = (i == p.input && j == p.output) || is_in i j ps

-- the test decides it
pub Decides-in : (i j : ℕ) (ps : List Pair) → Decides (is_in i j ps) (In i j ps)
Decides-in i j [] = (λ e. absurd (cc), λ none. absurd none)
Decides-in i j (p ∷ ps) =
    Decides-or (i == p.input && j == p.output) (is_in i j ps) (Decides-and (i == p.input) (j == p.output) (Decides-eqb i p.input) (Decides-eqb j p.output))
    (Decides-in i j ps)

-- each of the pairs has P
abbrev pub Each : (ℕ → ℕ → Type 0) → List Pair → Type 0
Each P [] = Unit {0}
Each P (p ∷ ps) = P p.input p.output × Each P ps

-- so a pair of them has it
pub each : (P : ℕ → ℕ → Type 0) (ps : List Pair) → Each P ps → (i j : ℕ) → In i j ps → P i j
each P [] all i j is = absurd is
each P (p ∷ ps) all i j is = elim is [
  | inl here ↦ subst (λ x. P x j) (sym here.0) (subst (P p.input) (sym here.1) all.0)
  | inr later ↦ each P ps all.1 i j later
]

-- A slot: which input asks which output, beside input 0, which asks output 0 in every slot; which pairs it serves; and for
-- which of the requests two cells wait, and not one.
pub record Plan : Type 0 where
  pub asks : List Pair
  pub serves : List Pair
  pub twice : List Pair

-- all requests of the slot
abbrev pub asked : Plan → List Pair
asked p = pair 0 0 ∷ p.asks

-- the match serves the pairs of the plan, which are asked for, and no others
pub record IsServing (p : Plan) (matched : List (Option Fed)) : Type 0 where
  pub serves : (i j : ℕ) → In i j p.serves → Serves matched i j 0 Uni
  pub only : (i j level : ℕ) (kind : Kind) → Serves matched i j level kind → In i j p.serves
  pub asking : (i j : ℕ) → In i j p.serves → In i j (asked p)

-- and queue (0, 0) is not among them
pub record IsServingOthers (p : Plan) (matched : List (Option Fed)) : Type 0 where
  pub serving : IsServing p matched
  pub left : Serves matched 0 0 0 Uni → ⊥

-- the row of input i, where these are the requests
row_at : ℕ → List Pair → ℕ → Row
row_at n ps i = record { uni = set_of n (λ j. is_in i j ps) ∷ replicate 3 0; multi = replicate LEVELS 0 }

-- the rows of these requests
pub rows_in : ℕ → List Pair → List Row
rows_in n ps = map (row_at n ps) (range_with_len 0 n)

-- the rows of the slot
abbrev pub rows_of : ℕ → Plan → List Row
rows_of n p = rows_in n (asked p)

-- the plan has the request, at level 0 as unicast
abbrev AskedAt : ℕ → Plan → ℕ → ℕ → ℕ → Kind → Type 0
AskedAt n p i j level kind = (level ≡ 0) × (kind ≡ Uni) × (j < n) × In i j (asked p)

-- what a row names is asked
asked_at : (n : ℕ) (p : Plan) (i j level : ℕ) (kind : Kind) → Names (row_at n (asked p) i) level kind j → AskedAt n p i j level kind
unfolding row_at
asked_at n p i j zero Uni named = let has = (Has-set_of n (λ y. is_in i y (asked p)) j).0 named in (refl, refl, has.0, (Decides-in i j (asked p)).0 has.1)
asked_at n p i j (suc level) Uni named = absurd (no_members 3 level j named)
asked_at n p i j level Multi named = absurd (no_members LEVELS level j named)

-- what is asked a row names
named_at : (n : ℕ) (p : Plan) (i j : ℕ) → j < n → In i j (asked p) → Names (row_at n (asked p) i) 0 Uni j
unfolding row_at
named_at n p i j j_in is = (Has-set_of n (λ y. is_in i y (asked p)) j).1 (j_in, (Decides-in i j (asked p)).1 is)

-- the row of an input of the switch
row_is : (n : ℕ) (p : Plan) (i : ℕ) → i < n → row_of (rows_of n p) i ≡ row_at n (asked p) i
unfolding rows_in
row_is n p i i_in = get_or-map-range_with_len (row_at n (asked p)) 0 n i i no_row i_in (omega arith)

-- what a row names is what is asked
pub posted : (n : ℕ) (p : Plan) (i j level : ℕ) (kind : Kind) → i < n → Names (row_of (rows_of n p) i) level kind j → AskedAt n p i j level kind
posted n p i j level kind i_in named = asked_at n p i j level kind (subst (λ row. Names row level kind j) (row_is n p i i_in) named)

-- what is asked is named
pub names : (n : ℕ) (p : Plan) (i j : ℕ) → i < n → j < n → In i j (asked p) → Names (row_of (rows_of n p) i) 0 Uni j
names n p i j i_in j_in is = subst (λ row. Names row 0 Uni j) (sym (row_is n p i i_in)) (named_at n p i j j_in is)

-- the rows name only ports of the switch
pub AreWithin-rows : (n : ℕ) (p : Plan) → AreWithin n (rows_of n p)
unfolding rows_in
AreWithin-rows n p =
    record {
      count = length-map-range_with_len (row_at n (asked p)) 0 n;
      ports = λ i i_in level j kind named. (posted n p i j level kind i_in named).2;
      levels = λ i i_in level j kind named. let at = (posted n p i j level kind i_in named).0 in omega arith;
    }

-- nothing is better than level 0
pub IsClean-rows : (n : ℕ) (p : Plan) → IsClean n 0 (rows_of n p)
IsClean-rows n p i better j kind i_in less named = absurd (omega arith)

-- nothing is multicast
pub IsWithoutMulticast-rows : (n : ℕ) (p : Plan) → IsWithoutMulticast n 0 (rows_of n p)
IsWithoutMulticast-rows n p i j i_in named = let kind = (posted n p i j 0 Multi i_in named).1 in absurd (cc)
