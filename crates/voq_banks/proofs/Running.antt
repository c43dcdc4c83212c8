-- Packets that stand for their cells: a packet more at the end, and the first cell gone.
use Rattle.std.proofs.Common.{◌≡◌, ◌∙◌, ℕ, suc, ◌+◌, ◌-◌, ◌<◌, ◌≤◌, List, [], ◌∷◌, ◌++◌, drop, length, refl, ap, sym, arith, Some, slice_get}
use Rattle.std.proofs.Common.{get_or, length-append, length-drop, add-one}
use Rattle.std.specs.List.{flat_map}
use Rattle.std.proofs.lemmas.List.{drop-append-le, append-nil}
use Rattle.std.proofs.lemmas.Grind.{flat_map-append}
use Rattle.std.proofs.lemmas.List.FromFn.{length-map-range_with_len, get_or-map-range_with_len}
use Rattle.std.proofs.lemmas.Option.{same_Some}
use Rattle.std.proofs.Math.Seq.{drop-append_seam, drop-cons}
use Rattle.std.proofs.Math.ListN.{get_or-append}
use Rattle.circular_buffer.specs.Buffer.{keep_last}
use Rattle.cell_cutter.specs.declared.sizes.TheConstants.{MAX_FORWARDED_CELLS}
use Rattle.voq_banks.specs.declared.ring.QueuedCell.{QueuedCell}
use Rattle.voq_banks.specs.declared.ring.Waiting.{Waiting}
use Rattle.voq_banks.specs.RunSteps.{cell_of, run_of, cells_left, IsBegun, IsSized, AreSized, IsQueue}

-- what is pushed into a ring that has room stands at its end
pub keeps_all : {P : Type 0} (n : ℕ) (ps : List P) (p : P) → length ps < n → keep_last n (ps ++ p ∷ []) ≡ ps ++ p ∷ []
keeps_all n ps p room = let none : length (ps ++ p ∷ []) - n ≡ 0 = omega (arith, length-append ps (p ∷ [])) in rw none refl

module _ {F : Type 0} where
  pub length-run_of : (p : Waiting F) → length (run_of p) ≡ p.cells
  length-run_of p = length-map-range_with_len _ 0 p.cells

  -- ---- a packet more
  begun_in : (gone : ℕ) (ps : List (Waiting F)) → IsBegun gone ps → gone ≤ length (flat_map run_of ps)
  begun_in gone [] begun = omega arith
  begun_in gone (p ∷ ps) begun =
      omega (arith, length-append (run_of p) (flat_map run_of ps), length-run_of p)

  pub cells_left-more : (gone : ℕ) (ps : List (Waiting F)) (p : Waiting F) → IsBegun gone ps → cells_left gone (ps ++ p ∷ []) ≡ cells_left gone ps ++ run_of p
  cells_left-more gone ps p begun =
      let all : flat_map run_of (ps ++ p ∷ []) ≡ flat_map run_of ps ++ run_of p =
      flat_map-append run_of ps (p ∷ []) ∙ ap (λ x. flat_map run_of ps ++ x) (append-nil (run_of p)) in
      ap (drop gone) all ∙ drop-append-le gone (flat_map run_of ps) (run_of p) (begun_in gone ps begun)

  IsBegun-more : (gone : ℕ) (ps : List (Waiting F)) (p : Waiting F) → 0 < p.cells → IsBegun gone ps → IsBegun gone (ps ++ p ∷ [])
  IsBegun-more gone [] p some begun = omega arith
  IsBegun-more gone (x ∷ ps) p some begun = begun

  AreSized-more : (ps : List (Waiting F)) (p : Waiting F) → IsSized p → AreSized ps → AreSized (ps ++ p ∷ [])
  AreSized-more [] p one all = (one, tt)
  AreSized-more (x ∷ ps) p one all = (all.0, AreSized-more ps p one all.1)

  pub IsQueue-more : (gone count : ℕ) (ps : List (Waiting F)) (p : Waiting F) → 0 < p.cells → p.cells ≤ MAX_FORWARDED_CELLS → IsQueue gone count ps
      → IsQueue gone (count + p.cells) (ps ++ p ∷ [])
  IsQueue-more gone count ps p some few q = record {
    begun = IsBegun-more gone ps p some q.begun;
    sized = AreSized-more ps p (some, few) q.sized;
    counted = omega (arith, q.counted, ap length (cells_left-more gone ps p q.begun), length-append (cells_left gone ps) (run_of p), length-run_of p);
  }

  -- ---- the first cell goes
  pub first_cell : (gone : ℕ) (ps : List (Waiting F)) (p : Waiting F) → Some p ≡ slice_get ps 0 → IsBegun gone ps
      → cells_left gone ps ≡ cell_of p gone ∷ cells_left (gone + 1) ps
  first_cell gone [] p is begun = absurd cc
  first_cell gone (x ∷ ps) p is begun =
      let same : p ≡ x = same_Some p x is in
      let all : List (QueuedCell F) = flat_map run_of (x ∷ ps) in
      let long = length-append (run_of x) (flat_map run_of ps) in
      let inside : gone < length all = omega (arith, long, length-run_of x) in
      let here : get_or all gone (cell_of x gone) ≡ cell_of x gone =
      get_or-append (run_of x) (flat_map run_of ps) (cell_of x gone) gone (omega (arith, length-run_of x))
      ∙ get_or-map-range_with_len _ 0 x.cells gone gone (cell_of x gone) begun (omega arith) in
      let split : cells_left gone (x ∷ ps) ≡ cell_of x gone ∷ cells_left (gone + 1) (x ∷ ps) = drop-cons all gone (cell_of x gone) inside
      ∙ ap (λ y. y ∷ drop (suc gone) all) here ∙ ap (λ n. cell_of x gone ∷ drop n all) (sym (add-one gone)) in
      rw same split

  pub last_cell : (gone : ℕ) (ps : List (Waiting F)) (p : Waiting F) → Some p ≡ slice_get ps 0 → gone ≡ p.cells → cells_left gone ps ≡ cells_left 0 (drop 1 ps)
  last_cell gone [] p is end = absurd cc
  last_cell gone (x ∷ ps) p is end =
      let same : p ≡ x = same_Some p x is in
      let long : gone ≡ length (run_of x) = end ∙ ap (λ (w : Waiting F). w.cells) same ∙ sym (length-run_of x) in
      rw long (drop-append_seam (run_of x) (flat_map run_of ps))

  IsBegun-next : (ps : List (Waiting F)) → AreSized ps → IsBegun 0 ps
  IsBegun-next [] all = refl
  IsBegun-next (p ∷ ps) all = all.0.0

  AreSized-rest : (ps : List (Waiting F)) → AreSized ps → AreSized (drop 1 ps)
  AreSized-rest [] all = tt
  AreSized-rest (p ∷ ps) all = all.1

  -- the queue where the last cell of its first packet has gone
  pub IsQueue-next : (gone count : ℕ) (ps : List (Waiting F)) (p : Waiting F) → Some p ≡ slice_get ps 0 → gone + 1 ≡ p.cells → IsQueue gone count ps
      → IsQueue 0 (count - 1) (drop 1 ps)
  IsQueue-next gone count ps p is end q =
      let rest = AreSized-rest ps q.sized in record {
        begun = IsBegun-next (drop 1 ps) rest;
        sized = rest;
        counted = omega (arith, q.counted, ap length (first_cell gone ps p is q.begun), ap length (last_cell (gone + 1) ps p is end));
      }

  -- ---- a packet that waits has a cell that waits
  packed_all : (ps : List (Waiting F)) → AreSized ps → length ps ≤ length (flat_map run_of ps)
  packed_all [] all = omega arith
  packed_all (p ∷ ps) all =
      omega (arith, all.0.0, packed_all ps all.1, length-append (run_of p) (flat_map run_of ps), length-run_of p)

  pub packed : (gone count : ℕ) (ps : List (Waiting F)) → IsQueue gone count ps → length ps ≤ length (cells_left gone ps)
  packed gone count [] q = omega arith
  packed gone count (p ∷ ps) q =
      omega (
        arith,
        q.begun,
        packed_all ps q.sized.1,
        length-append (run_of p) (flat_map run_of ps),
        length-run_of p,
        length-drop gone (flat_map run_of (p ∷ ps)),
      )
