-- What the files that are given at the start hold and count.
use Rattle.std.proofs.Common.{◌≡◌, ℕ, List, [], ◌∷◌, Bool, true, false, cond, map, Option, Some, refl, ap}
use Rattle.std.specs.Prelude.{option_map, unwrap_or, bytes_eq, string_bytes, Vec, String}
use Rattle.std.specs.Map.{lookup}
use Rattle.outside.specs.Calls.{no_calls}
use Rattle.outside.specs.Faults.{Place, ReadOf, BeginOf, WriteOf, ToOut, ToErr}
use Rattle.outside.specs.MemoryFiles.{FileState, file_named, file_at_start, contents_among, contents_given, counts_at, faults_among}

both_at : {X Y Z : Type 0} (f : X → Z) (g : Y → Z) (here : Bool) (x : X) (y : Y) (o : Option X) (r : Option Y) → f x ≡ g y → option_map f o ≡ option_map g r
    → option_map f (cond here (Some x) o) ≡ option_map g (cond here (Some y) r)
both_at f g true x y o r first rest = ap Some first
both_at f g false x y o r first rest = rest

default_at : {X Z : Type 0} (f : X → Z) (z : Z) (here : Bool) (x : X) (o : Option X) → f x ≡ z → unwrap_or (option_map f o) z ≡ z
    → unwrap_or (option_map f (cond here (Some x) o)) z ≡ z
default_at f z true x o first rest = first
default_at f z false x o first rest = rest

given_file : {A : Type 0} (n : List ℕ) (files : List (String A × Vec ℕ A))
    → option_map (λ (f : FileState). f.bytes) (file_named n (map file_at_start files)) ≡ option_map (λ v. v.items)
    (lookup (λ m. bytes_eq n (string_bytes m)) files)
given_file n [] = refl
given_file n (f ∷ files) =
    both_at (λ (g : FileState). g.bytes) (λ v. v.items) (bytes_eq n (string_bytes f.0)) (file_at_start f) f.1 (file_named n (map file_at_start files))
    (lookup (λ m. bytes_eq n (string_bytes m)) files) refl (given_file n files)

given_begun : {A : Type 0} (n : List ℕ) (files : List (String A × Vec ℕ A))
    → unwrap_or (option_map (λ (f : FileState). f.begun) (file_named n (map file_at_start files))) false ≡ false
given_begun n [] = refl
given_begun n (f ∷ files) =
    default_at (λ (g : FileState). g.begun) false (bytes_eq n (string_bytes f.0)) (file_at_start f) (file_named n (map file_at_start files)) refl
    (given_begun n files)

pub given_contents : {A : Type 0} (files : List (String A × Vec ℕ A)) → contents_among (map file_at_start files) [] [] ≡ contents_given files
given_contents files = λ j. record { file = λ n. given_file n files j; begun = λ n. given_begun n files j; out = []; err = [] }

given_counts : {A : Type 0} (n : List ℕ) (files : List (String A × Vec ℕ A)) → counts_at (map file_at_start files) no_calls n ≡ no_calls
given_counts n [] = refl
given_counts n (f ∷ files) =
    default_at (λ (g : FileState). g.faults) no_calls (bytes_eq n (string_bytes f.0)) (file_at_start f) (file_named n (map file_at_start files)) refl
    (given_counts n files)

pub given_faults : {A : Type 0} (files : List (String A × Vec ℕ A)) (p : Place) → faults_among (map file_at_start files) no_calls p ≡ 0
given_faults files (ReadOf n) = ap (λ c. c.read) (given_counts n files)
given_faults files (BeginOf n) = ap (λ c. c.begin) (given_counts n files)
given_faults files (WriteOf n) = ap (λ c. c.write) (given_counts n files)
given_faults files ToOut = refl
given_faults files ToErr = refl
