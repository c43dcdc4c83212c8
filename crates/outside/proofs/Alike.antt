-- What is seen alike of the files that are named so stays alike where something is written.
use Rattle.std.proofs.Common.{ℕ, List, [], ◌++◌, take, Bool, Option, Some, None, ap}
use Rattle.std.specs.Prelude.{Result, Ok, Err, option_map, bytes_eq, if◌then◌else◌}
use Rattle.outside.specs.Contents.{AreAlike, Contents, after_begin, after_err, after_out, after_write, append_err, append_file, append_out, begin_file}

module _ (named : List ℕ → Bool) where
  -- by a change after which the named files are alike where they were before
  alike_mapped : (change : Contents → Contents)
      → ((c d : Contents) → AreAlike named (Some c) (Some d) → AreAlike named (Some (change c)) (Some (change d)))
      → (o p : Option Contents) → AreAlike named o p → AreAlike named (option_map change o) (option_map change p)
  alike_mapped change kept None None alike = tt
  alike_mapped change kept (Some c) (Some d) alike = kept c d alike
  alike_mapped change kept None (Some d) alike = absurd alike
  alike_mapped change kept (Some c) None alike = absurd alike

  pub alike_begin_file : (name : List ℕ) (o p : Option Contents) → AreAlike named o p
      → AreAlike named (option_map (begin_file name) o) (option_map (begin_file name) p)
  alike_begin_file name =
      alike_mapped (begin_file name) (λ c d alike n is. ap (λ file. if bytes_eq n name then Some [] else file) (alike n is))

  pub alike_append_file : (name more : List ℕ) (o p : Option Contents) → AreAlike named o p
      → AreAlike named (option_map (append_file name more) o) (option_map (append_file name more) p)
  alike_append_file name more =
      alike_mapped (append_file name more)
      (λ c d alike n is. ap (λ file. if bytes_eq n name then option_map (λ bytes. bytes ++ more) file else file) (alike n is))

  pub alike_append_out : (more : List ℕ) (o p : Option Contents) → AreAlike named o p
      → AreAlike named (option_map (append_out more) o) (option_map (append_out more) p)
  alike_append_out more = alike_mapped (append_out more) (λ c d alike. alike)

  pub alike_append_err : (more : List ℕ) (o p : Option Contents) → AreAlike named o p
      → AreAlike named (option_map (append_err more) o) (option_map (append_err more) p)
  alike_append_err more = alike_mapped (append_err more) (λ c d alike. alike)

  -- by a call that writes, whether it was refused or not

  pub alike_after_begin : {T E : Type 0} (r : Result T E) (name : List ℕ) (o p : Option Contents) → AreAlike named o p
      → AreAlike named (after_begin r name o) (after_begin r name p)
  alike_after_begin (Ok done) name o p alike = alike_begin_file name o p alike
  alike_after_begin (Err failure) name o p alike = alike

  pub alike_after_write : {E : Type 0} (r : Result ℕ E) (name bytes : List ℕ) (o p : Option Contents) → AreAlike named o p
      → AreAlike named (after_write r name bytes o) (after_write r name bytes p)
  alike_after_write (Ok k) name bytes o p alike = alike_append_file name (take k bytes) o p alike
  alike_after_write (Err failure) name bytes o p alike = alike

  pub alike_after_out : {E : Type 0} (r : Result ℕ E) (bytes : List ℕ) (o p : Option Contents) → AreAlike named o p
      → AreAlike named (after_out r bytes o) (after_out r bytes p)
  alike_after_out (Ok k) bytes o p alike = alike_append_out (take k bytes) o p alike
  alike_after_out (Err failure) bytes o p alike = alike

  pub alike_after_err : {E : Type 0} (r : Result ℕ E) (bytes : List ℕ) (o p : Option Contents) → AreAlike named o p
      → AreAlike named (after_err r bytes o) (after_err r bytes p)
  alike_after_err (Ok k) bytes o p alike = alike_append_err (take k bytes) o p alike
  alike_after_err (Err failure) bytes o p alike = alike
