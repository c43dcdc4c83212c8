-- The files that a run writes, one after the other.
use Rattle.std.proofs.Common.{◌≡◌, ◌<◌, ◌+◌, ℕ, suc, List, [], ◌∷◌, ◌++◌, map, take, length, get_or, Option, Some, None, inl, inr, refl, sym, ◌∙◌}
use Rattle.std.proofs.Common.{ap, subst, arith, length-append}
use Rattle.std.specs.Prelude.{Result, Ok, Err, OnErr, OnOk, is_err, is_ok, true, false, if◌then◌else◌, option_map, string_bytes}
use Rattle.std.proofs.Math.Seq.{take-append_seam}
use Rattle.std.proofs.lemmas.List.{get_or-map, get_or_append_left, length-map, map_push, take-append-le}
use Rattle.std.proofs.lemmas.Bool.{cases_lt, le-ltb, lt-ltb}
use Rattle.std.proofs.lemmas.Bool.Decides.{eqb_tells}
use Rattle.std.proofs.lemmas.List.Sums.{fold-append, fold_more}
use Rattle.outside.specs.Contents.{Contents, append_out}
use Rattle.outside.specs.Faults.{Place, NeverFall}
use Rattle.outside.specs.WholeFiles.{NamedBytes, Puts, StopsAt, put_file}
use Rattle.outside.proofs.Counting.{last_calls}
use Rattle.outside.proofs.Putting.{StopsAt-wider}
use Rattle.outside.proofs.Effects.{option_map-option_map}
use Rattle.job_files.specs.OutputFiles.{files_from, nameless, output_name, put_files, shown}
use Rattle.job_files.specs.FileSteps.{StopsAtPlace, StopsPutting, all_shown, pieced, written_at}
use Rattle.job_files.specs.declared.output_files.JobTexts.{JobTexts}
use Rattle.job_files.specs.declared.output_files.OutputFile.{OutputFile}
use Rattle.job_files.proofs.Holding.{length-files_from}

-- A call that puts the file of a place, after those before it were put.
pub record PutsNext {T E : Type 0} (files : List OutputFile) (r : Result T E) (was now : Place → ℕ) (old new : Option Contents) : Type 0 where
  pub place : ℕ
  pub file : OutputFile
  pub mid : Option Contents
  pub within : place < length files
  pub file_is : file ≡ get_or files place file
  pub before : mid ≡ option_map (put_files (take place (map shown files))) old
  pub puts : Puts r (shown file) was now mid new

-- the file, among all
next_file : (files : List OutputFile) (place : ℕ) (file : OutputFile) → place < length files → file ≡ get_or files place file
    → get_or (map shown files) place nameless ≡ shown file
next_file files place file within is = get_or-map shown files place file nameless within ∙ ap shown (sym is)

-- it failed
pub put_to : {T E : Type 0} (files : List OutputFile) (r : Result T E) (was now : Place → ℕ) (old new : Option Contents)
    → (next : PutsNext files r was now old new) → is_err r ≡ true
    → StopsAt (get_or (map shown files) next.place nameless) was now (option_map (put_files (take next.place (map shown files))) old) new
put_to files (Ok y) was now old new next err = absurd (cc)
put_to files (Err e) was now old new next err =
    rw (next_file files next.place next.file next.within next.file_is)
    (subst (λ (before : Option Contents). StopsAt (shown next.file) was now before new) next.before next.puts)

one_more_put : (files : List NamedBytes) (i : ℕ) (o : Option Contents) → i < length files
    → option_map (λ c. put_file (put_files (take i files) c) (get_or files i nameless)) o ≡ option_map (put_files (take (i + 1) files)) o
one_more_put files i None within = refl
one_more_put files i (Some c) within = ap Some (sym (fold_more put_file c files i nameless within))

-- what a call that went well says
pub went_well : {T E P : Type 0} (r : Result T E) → is_err r ≡ false → OnOk r P → P
went_well (Ok x) is holds = holds
went_well (Err e) is holds = absurd (cc)

-- and one that was refused
pub went_wrong : {T E P : Type 0} (r : Result T E) → is_err r ≡ true → OnErr r P → P
went_wrong (Ok x) is holds = absurd (cc)
went_wrong (Err e) is holds = holds

-- one file more is put
pub put_more : {T E : Type 0} (files : List OutputFile) (r : Result T E) (was now : Place → ℕ) (old new : Option Contents)
    → (next : PutsNext files r was now old new) → is_err r ≡ false → new ≡ option_map (put_files (take (next.place + 1) (map shown files))) old
put_more files (Ok y) was now old new next err =
    let before = put_files (take next.place (map shown files)) in
    let inside : next.place < length (map shown files) = omega (arith, length-map files shown, next.within) in
    next.puts ∙ ap (option_map (λ c. put_file c (shown next.file))) next.before ∙ option_map-option_map before (λ c. put_file c (shown next.file)) old
    ∙ ap (λ f. option_map (λ c. put_file (before c) f) old) (sym (next_file files next.place next.file next.within next.file_is))
    ∙ one_more_put (map shown files) next.place old inside
put_more files (Err e) was now old new next err = absurd (cc)

-- The names of the files

files_push : (prefix : List ℕ) (j : ℕ) (outputs : List (List ℕ)) (bytes : List ℕ) → files_from prefix j (outputs ++ bytes ∷ []) ≡ files_from prefix j outputs
    ++ record { name = output_name prefix (j + length outputs); bytes = bytes } ∷ []
files_push prefix j [] bytes = let n : j ≡ j + 0 = omega arith in ap (λ k. record { name = output_name prefix k; bytes = bytes } ∷ []) n
files_push prefix j (first ∷ more) bytes =
    let n : j + 1 + length more ≡ j + suc (length more) = omega arith in
    ap (λ xs. record { name = output_name prefix j; bytes = first } ∷ xs)
    (files_push prefix (j + 1) more bytes ∙ ap (λ k. files_from prefix (j + 1) more ++ record { name = output_name prefix k; bytes = bytes } ∷ []) n)

-- one file more is named
pub named_more : (prefix : List ℕ) (files : List OutputFile) (f : OutputFile) (outputs : List (List ℕ)) → map shown files ≡ files_from prefix 0 outputs
    → string_bytes f.name ≡ output_name prefix (length files)
    → map shown (files ++ f ∷ []) ≡ files_from prefix 0 (outputs ++ f.bytes.items ∷ [])
named_more prefix files f outputs same name_is =
    let n : length files ≡ 0 + length outputs = omega (arith, length-map files shown, ap length same, length-files_from prefix 0 outputs) in
    let e : string_bytes f.name ≡ output_name prefix (0 + length outputs) = name_is ∙ ap (output_name prefix) n in
    map_push shown files f ∙ ap (λ xs. xs ++ shown f ∷ []) same
    ∙ ap (λ name. files_from prefix 0 outputs ++ record { name = name; bytes = f.bytes.items } ∷ []) e
    ∙ sym (files_push prefix 0 outputs f.bytes.items)

-- what a push left, where it did not fail
pub pushed : {A T E : Type 0} (r : Result T E) (new old : List A) (x : A) (y : T) → new ≡ (if is_ok r then old ++ x ∷ [] else old) → r ≡ Ok y
    → new ≡ old ++ x ∷ []
pushed r new old x y e ok = rw ok at e

-- a call on one of the first files was refused
stops_front : (first more : List NamedBytes) (place : ℕ) (old new : Option Contents) (was now : Place → ℕ) → place < length first
    → StopsAt (get_or first place nameless) was now (option_map (put_files (take place first)) old) new
    → StopsAtPlace (first ++ more) place old was now new
stops_front first more place old new was now within stops =
    let same = get_or_append_left first more nameless place within in
    let before : take place (first ++ more) ≡ take place first = take-append-le place first more (omega arith) in
    record {
      within = omega (arith, within, length-append first more);
      stops = subst (λ (f : NamedBytes). StopsAt f was now (option_map (put_files (take place (first ++ more))) old) new) (sym same)
          (subst (λ (fs : List NamedBytes). StopsAt (get_or first place nameless) was now (option_map (put_files fs) old) new) (sym before) stops);
    }

-- a call on the file at a place before the packets file was refused
pub stops_at_place : {P : Type 0} (left : P → List ℕ) (texts : JobTexts P) (place : ℕ) (old new : Option Contents) (was now : Place → ℕ)
    → place < length texts.files.items
    → StopsAt (get_or (map shown texts.files.items) place nameless) was now (option_map (put_files (take place (map shown texts.files.items))) old) new
    → StopsPutting texts.outputs (length texts.files.items) (all_shown left texts) (string_bytes texts.summary) (written_at place texts.outputs) old
    was now new
stops_at_place left texts place old new was now within stops =
    let outputs = texts.outputs in
    let first = map shown texts.files.items in
    let more = pieced left texts.packets in
    let at = stops_front first more place old new was now (omega (arith, within, length-map texts.files.items shown)) stops in
    elim (cases_lt place outputs) [
      | inl before ↦ rw (lt-ltb place outputs before) (before, at)
      | inr after ↦ elim (eqb_tells place outputs) [
        | inl same ↦ rw (le-ltb place outputs after, same.0) (subst (λ (n : ℕ). StopsAtPlace (first ++ more) n old was now new) same.1 at)
        | inr other ↦ let differs = other.1 in rw (le-ltb place outputs after, other.0) (place, omega (arith, after, differs), within, at)
      ]
    ]

-- files put, and then more
put_then : (first more : List NamedBytes) (o : Option Contents)
    → option_map (put_files more) (option_map (put_files first) o) ≡ option_map (put_files (first ++ more)) o
put_then first more None = refl
put_then first more (Some c) = ap Some (sym (fold-append put_file c first more))

pub put_all : (first more : List NamedBytes) (o mid new : Option Contents) → mid ≡ option_map (put_files first) o → new ≡ option_map (put_files more) mid
    → new ≡ option_map (put_files (first ++ more)) o
put_all first more o mid new put wrote = wrote ∙ ap (option_map (put_files more)) put ∙ put_then first more o

-- files put, and then a text given to standard output
pub put_and_given : (files : List NamedBytes) (text : List ℕ) (o packed new : Option Contents) → packed ≡ option_map (put_files files) o
    → new ≡ option_map (append_out text) packed → new ≡ option_map (λ c. append_out text (put_files files c)) o
put_and_given files text o packed new put given = given ∙ ap (option_map (append_out text)) put ∙ option_map-option_map (put_files files) (append_out text) o

none_put : (o : Option Contents) → option_map (put_files []) o ≡ o
none_put None = refl
none_put (Some c) = refl

-- a call on one file alone was refused
pub stops_alone : {T E : Type 0} (r : Result T E) (f : NamedBytes) (was now : Place → ℕ) (old new : Option Contents) → Puts r f was now old new
    → OnErr r (StopsAtPlace (f ∷ []) 0 old was now new)
stops_alone (Ok x) f was now old new puts = tt
stops_alone (Err e) f was now old new puts =
    record { within = omega arith; stops = subst (λ (o : Option Contents). StopsAt f was now o new) (sym (none_put old)) puts }

after_first : (first more : List NamedBytes) → get_or (first ++ more) (length first) nameless ≡ get_or more 0 nameless
after_first [] more = refl
after_first (f ∷ first) more = after_first first more

-- a call on the file after the first was refused, which were put
pub stops_after : (first more : List NamedBytes) (was mid now : Place → ℕ) (old new : Option Contents) → NeverFall was mid
    → StopsAtPlace more 0 (option_map (put_files first) old) mid now new → StopsAtPlace (first ++ more) (length first) old was now new
stops_after first more was mid now old new kept stops =
    let before : option_map (put_files (take (length first) (first ++ more))) old ≡ option_map (put_files []) (option_map (put_files first) old) =
    ap (λ fs. option_map (put_files fs) old) (take-append_seam first more) ∙ sym (none_put (option_map (put_files first) old)) in
    record {
      within = omega (arith, stops.within, length-append first more);
      stops = rw (after_first first more, before)
          (StopsAt-wider (get_or more 0 nameless) was now (last_calls was mid now kept) _ new stops.stops);
    }
