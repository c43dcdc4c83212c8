-- What the files hold once all texts were written.
use Rattle.std.proofs.Common.{◌≡◌, ◌≢◌, ◌<◌, ◌≤◌, ◌+◌, ◌^◌, ℕ, zero, suc, List, [], ◌∷◌, ◌++◌, length, get_or, Option, Some, None, refl, sym, ◌∙◌, ap}
use Rattle.std.proofs.Common.{arith, length-append}
use Rattle.std.specs.Prelude.{All, IfSome, option_map, codes, decimal}
use Rattle.std.proofs.lemmas.Fmt.{decimal_injective}
use Rattle.std.proofs.lemmas.List.{append_cancel_left, append_cancel_right, get_or-append-add}
use Rattle.std.proofs.lemmas.List.Elements.{All-head, All-tail}
use Rattle.outside.specs.Contents.{Contents, append_out, begin_file}
use Rattle.outside.specs.WholeFiles.{NamedBytes, put_file}
use Rattle.outside.proofs.Effects.{file-append_file-begin_file, file-append_file-other, file-begin_file-other}
use Rattle.switch_words.specs.Reading.{CheckWords, JobWords, run, gen, check, firm, RunWords}
use Rattle.job_files.specs.OutputFiles.{Texts, HoldsTexts, files_from, journal_files, journal_name, output_name, packets_files, packets_name}
use Rattle.job_files.specs.OutputFiles.{report_name, put_files, put_texts, run_files}

-- ---- names

-- outputs of different numbers have files of different names
pub output_name-injective : (prefix : List ℕ) (j k : ℕ) → j < 2 ^ 64 → k < 2 ^ 64 → output_name prefix j ≡ output_name prefix k → j ≡ k
output_name-injective prefix j k j_fits k_fits same =
    let dotted : codes "." ++ (decimal j ++ codes ".pcap") ≡ codes "." ++ (decimal k ++ codes ".pcap") = append_cancel_left prefix _ _ same in
    let tails : decimal j ++ codes ".pcap" ≡ decimal k ++ codes ".pcap" = append_cancel_left (codes ".") _ _ dotted in
    decimal_injective j k j_fits k_fits (append_cancel_right (decimal j) (decimal k) (codes ".pcap") tails)

ends_otherwise : (digits : List ℕ) → digits ++ codes ".pcap" ≡ codes "report" → ⊥
ends_otherwise [] same = let first = ap (λ xs. get_or xs 0 0) same in absurd (omega (arith, first))
ends_otherwise (x ∷ []) same = let second = ap (λ xs. get_or xs 1 0) same in absurd (omega (arith, second))
ends_otherwise (x ∷ y ∷ rest) same = let long = ap length same in absurd (omega (arith, long, length-append rest (codes ".pcap")))

-- no output has the name of the report
output_is_no_report : (prefix : List ℕ) (j : ℕ) → output_name prefix j ≢ report_name prefix
output_is_no_report prefix j same =
    let dotted : codes "." ++ (decimal j ++ codes ".pcap") ≡ codes "." ++ codes "report" = append_cancel_left prefix _ _ same in
    ends_otherwise (decimal j) (append_cancel_left (codes ".") _ _ dotted)

report_is_no_journal : (prefix : List ℕ) → report_name prefix ≢ journal_name prefix
report_is_no_journal prefix same =
    let names : codes ".report" ≡ codes ".journal" = append_cancel_left prefix _ _ same in
    let second = ap (λ xs. get_or xs 1 0) names in
    omega (arith, second)

ends_no_journal : (digits : List ℕ) → digits ++ codes ".pcap" ≡ codes "journal" → ⊥
ends_no_journal [] same = let first = ap (λ xs. get_or xs 0 0) same in absurd (omega (arith, first))
ends_no_journal (x ∷ []) same = let second = ap (λ xs. get_or xs 1 0) same in absurd (omega (arith, second))
ends_no_journal (x ∷ y ∷ []) same = let third = ap (λ xs. get_or xs 2 0) same in absurd (omega (arith, third))
ends_no_journal (x ∷ y ∷ z ∷ rest) same = let long = ap length same in absurd (omega (arith, long, length-append rest (codes ".pcap")))

-- no output has the name of the journal
output_is_no_journal : (prefix : List ℕ) (j : ℕ) → output_name prefix j ≢ journal_name prefix
output_is_no_journal prefix j same =
    let dotted : codes "." ++ (decimal j ++ codes ".pcap") ≡ codes "." ++ codes "journal" = append_cancel_left prefix _ _ same in
    ends_no_journal (decimal j) (append_cancel_left (codes ".") _ _ dotted)

report_is_no_packets : (prefix : List ℕ) → report_name prefix ≢ packets_name prefix
report_is_no_packets prefix same =
    let names : codes ".report" ≡ codes ".packets.csv" = append_cancel_left prefix _ _ same in
    let second = ap (λ xs. get_or xs 1 0) names in
    omega (arith, second)

journal_is_no_packets : (prefix : List ℕ) → journal_name prefix ≢ packets_name prefix
journal_is_no_packets prefix same =
    let names : codes ".journal" ≡ codes ".packets.csv" = append_cancel_left prefix _ _ same in
    let second = ap (λ xs. get_or xs 1 0) names in
    omega (arith, second)

ends_no_packets : (digits : List ℕ) → digits ++ codes ".pcap" ≡ codes "packets.csv" → ⊥
ends_no_packets digits same =
    let long : length digits ≡ 6 = omega (arith, ap length same, length-append digits (codes ".pcap")) in
    let last : 112 ≡ get_or (codes "packets.csv") (length digits + 4) 0 =
    sym (get_or-append-add digits (codes ".pcap") 4 0) ∙ ap (λ xs. get_or xs (length digits + 4) 0) same in
    let clash : 112 ≡ 118 = last ∙ ap (λ n. get_or (codes "packets.csv") (n + 4) 0) long in
    absurd (omega (arith, clash))

-- no output has the name of the packets file
output_is_no_packets : (prefix : List ℕ) (j : ℕ) → output_name prefix j ≢ packets_name prefix
output_is_no_packets prefix j same =
    let dotted : codes "." ++ (decimal j ++ codes ".pcap") ≡ codes "." ++ codes "packets.csv" = append_cancel_left prefix _ _ same in
    ends_no_packets (decimal j) (append_cancel_left (codes ".") _ _ dotted)

-- ---- files that are put

pub length-files_from : (prefix : List ℕ) (j : ℕ) (outputs : List (List ℕ)) → length (files_from prefix j outputs) ≡ length outputs
length-files_from prefix j [] = refl
length-files_from prefix j (bytes ∷ more) = ap suc (length-files_from prefix (j + 1) more)

put_append : (files more : List NamedBytes) (c : Contents) → put_files (files ++ more) c ≡ put_files more (put_files files c)
put_append [] more c = refl
put_append (first ∷ rest) more c = put_append rest more (put_file c first)

-- a name that is none of theirs finds what it found
others_put : (files : List NamedBytes) (c : Contents) (name : List ℕ) → All (λ file. file.name ≢ name) files → (put_files files c).file name ≡ c.file name
others_put [] c name other = refl
others_put (f ∷ more) c name other =
    let differs = All-head (λ (file : NamedBytes). file.name ≢ name) f more other in
    let here : name ≢ f.name = λ same. differs (sym same) in
    others_put more (put_file c f) name (All-tail (λ (file : NamedBytes). file.name ≢ name) f more other)
    ∙ file-append_file-other f.name f.bytes name (begin_file f.name c) here
    ∙ file-begin_file-other f.name name c here

out_put : (files : List NamedBytes) (c : Contents) → (put_files files c).out ≡ c.out
out_put [] c = refl
out_put (f ∷ more) c = out_put more (put_file c f)

err_put : (files : List NamedBytes) (c : Contents) → (put_files files c).err ≡ c.err
err_put [] c = refl
err_put (f ∷ more) c = err_put more (put_file c f)

-- the same of a name that is that of no output from j on
others_from : (prefix : List ℕ) (j : ℕ) (outputs : List (List ℕ)) (c : Contents) (name : List ℕ)
    → ((k : ℕ) → j ≤ k → k < j + length outputs → name ≢ output_name prefix k)
    → (put_files (files_from prefix j outputs) c).file name ≡ c.file name
others_from prefix j [] c name other = refl
others_from prefix j (bytes ∷ more) c name other =
    let here : name ≢ output_name prefix j = other j (omega arith) (omega arith) in
    others_from prefix (j + 1) more (put_file c (record { name = output_name prefix j; bytes = bytes })) name
    (λ k low high. other k (omega arith) (omega arith))
    ∙ file-append_file-other (output_name prefix j) bytes name (begin_file (output_name prefix j) c) here
    ∙ file-begin_file-other (output_name prefix j) name c here

each_from : (prefix : List ℕ) (j : ℕ) (outputs : List (List ℕ)) (c : Contents) (i : ℕ) → i < length outputs → j + length outputs ≤ 2 ^ 64
    → (put_files (files_from prefix j outputs) c).file (output_name prefix (j + i)) ≡ Some (get_or outputs i [])
each_from prefix j [] c i within fits = absurd (omega arith)
each_from prefix j (bytes ∷ more) c zero within fits =
    let n : j + 0 ≡ j = omega arith in
    let other : (k : ℕ) → j + 1 ≤ k → k < j + 1 + length more → output_name prefix j ≢ output_name prefix k = λ k low high same. let e : j ≡ k =
    output_name-injective prefix j k (omega arith) (omega arith) same in omega arith in
    rw n (others_from prefix (j + 1) more (put_file c (record { name = output_name prefix j; bytes = bytes })) (output_name prefix j) other
    ∙ file-append_file-begin_file (output_name prefix j) bytes c)
each_from prefix j (bytes ∷ more) c (suc i) within fits =
    let n : j + suc i ≡ j + 1 + i = omega arith in
    rw n (each_from prefix (j + 1) more (put_file c (record { name = output_name prefix j; bytes = bytes })) i (omega arith) (omega arith))

-- ---- the texts of a run

abbrev report_of : RunWords → Texts → NamedBytes
report_of r texts = record { name = report_name r.prefix; bytes = texts.report }

-- what stands after the outputs and the report
abbrev after_report : RunWords → Texts → Contents → Contents
after_report r texts c = put_file (put_files (files_from r.prefix 0 texts.outputs) c) (report_of r texts)

-- and the journal
abbrev after_journal : RunWords → Texts → Contents → Contents
after_journal r texts c = put_files (journal_files r.prefix texts.journal) (after_report r texts c)

file_after : (r : RunWords) (texts : Texts) (c : Contents) (name : List ℕ)
    → (put_texts (run r) texts c).file name ≡ (put_files (packets_files r.prefix texts.packets) (after_journal r texts c)).file name
file_after r texts c name =
    let journal = journal_files r.prefix texts.journal in
    let packets = packets_files r.prefix texts.packets in
    ap (λ (d : Contents). d.file name) (put_append (files_from r.prefix 0 texts.outputs) (report_of r texts ∷ (journal ++ packets)) c)
    ∙ ap (λ (d : Contents). d.file name) (put_append journal packets (after_report r texts c))

-- the journal's file leaves the others
journal_leaves : (prefix : List ℕ) (journal : Option (List ℕ)) (c : Contents) (name : List ℕ) → name ≢ journal_name prefix
    → (put_files (journal_files prefix journal) c).file name ≡ c.file name
journal_leaves prefix None c name other = refl
journal_leaves prefix (Some bytes) c name other =
    file-append_file-other (journal_name prefix) bytes name (begin_file (journal_name prefix) c) other
    ∙ file-begin_file-other (journal_name prefix) name c other

-- so does the packets file
packets_leave : (prefix : List ℕ) (packets : Option (List ℕ)) (c : Contents) (name : List ℕ) → name ≢ packets_name prefix
    → (put_files (packets_files prefix packets) c).file name ≡ c.file name
packets_leave prefix None c name other = refl
packets_leave prefix (Some bytes) c name other =
    file-append_file-other (packets_name prefix) bytes name (begin_file (packets_name prefix) c) other
    ∙ file-begin_file-other (packets_name prefix) name c other

output_held : (r : RunWords) (texts : Texts) (c : Contents) (j : ℕ) → length texts.outputs ≤ 2 ^ 64 → j < length texts.outputs
    → (put_texts (run r) texts c).file (output_name r.prefix j) ≡ Some (get_or texts.outputs j [])
output_held r texts c j fits within =
    let n : 0 + j ≡ j = omega arith in
    let files = put_files (files_from r.prefix 0 texts.outputs) c in
    let other = output_is_no_report r.prefix j in
    file_after r texts c (output_name r.prefix j)
    ∙ packets_leave r.prefix texts.packets (after_journal r texts c) (output_name r.prefix j) (output_is_no_packets r.prefix j)
    ∙ journal_leaves r.prefix texts.journal (after_report r texts c) (output_name r.prefix j) (output_is_no_journal r.prefix j)
    ∙ file-append_file-other (report_name r.prefix) texts.report (output_name r.prefix j) (begin_file (report_name r.prefix) files) other
    ∙ file-begin_file-other (report_name r.prefix) (output_name r.prefix j) files other
    ∙ (rw n at (each_from r.prefix 0 texts.outputs c j within (omega arith)))

report_held : (r : RunWords) (texts : Texts) (c : Contents) → (put_texts (run r) texts c).file (report_name r.prefix) ≡ Some texts.report
report_held r texts c =
    file_after r texts c (report_name r.prefix)
    ∙ packets_leave r.prefix texts.packets (after_journal r texts c) (report_name r.prefix) (report_is_no_packets r.prefix)
    ∙ journal_leaves r.prefix texts.journal (after_report r texts c) (report_name r.prefix) (report_is_no_journal r.prefix)
    ∙ file-append_file-begin_file (report_name r.prefix) texts.report (put_files (files_from r.prefix 0 texts.outputs) c)

journal_held : (r : RunWords) (texts : Texts) (c : Contents) (bytes : List ℕ) → texts.journal ≡ Some bytes
    → (put_texts (run r) texts c).file (journal_name r.prefix) ≡ Some bytes
journal_held r texts c bytes is =
    file_after r texts c (journal_name r.prefix)
    ∙ packets_leave r.prefix texts.packets (after_journal r texts c) (journal_name r.prefix) (journal_is_no_packets r.prefix)
    ∙ ap (λ (journal : Option (List ℕ)). (put_files (journal_files r.prefix journal) (after_report r texts c)).file (journal_name r.prefix)) is
    ∙ file-append_file-begin_file (journal_name r.prefix) bytes (after_report r texts c)

packets_held : (r : RunWords) (texts : Texts) (c : Contents) (bytes : List ℕ) → texts.packets ≡ Some bytes
    → (put_texts (run r) texts c).file (packets_name r.prefix) ≡ Some bytes
packets_held r texts c bytes is =
    file_after r texts c (packets_name r.prefix)
    ∙ ap (λ (packets : Option (List ℕ)). (put_files (packets_files r.prefix packets) (after_journal r texts c)).file (packets_name r.prefix)) is
    ∙ file-append_file-begin_file (packets_name r.prefix) bytes (after_journal r texts c)

pub same_run : (r s : RunWords) → run r ≡ run s → s ≡ r
same_run r s same = cc

-- a job that writes no files leaves them all
holds_alone : (job : JobWords) (texts : Texts) (c : Contents) → ((r : RunWords) → job ≡ run r → ⊥) → HoldsTexts job texts c (append_out texts.summary c)
holds_alone job texts c other = record {
  outputs = λ s j is within. absurd (other s is);
  report = λ s is. absurd (other s is);
  journal = λ s bytes is found. absurd (other s is);
  packets = λ s bytes is found. absurd (other s is);
  others = λ name none. refl;
  out = refl;
  err = refl;
}

pub gen_is_no_run : (g : _) (r : RunWords) → gen g ≡ run r → ⊥
gen_is_no_run g r is = absurd (cc)

pub check_is_no_run : (c : CheckWords) (r : RunWords) → check c ≡ run r → ⊥
check_is_no_run c r is = absurd (cc)

pub firm_is_no_run : (f : _) (r : RunWords) → firm f ≡ run r → ⊥
firm_is_no_run f r is = absurd (cc)

pub holds : (job : JobWords) (texts : Texts) (c : Contents) → length texts.outputs ≤ 2 ^ 64 → HoldsTexts job texts c (put_texts job texts c)
holds (run r) texts c fits = record {
  outputs = λ s j is within. rw (same_run r s is) (output_held r texts c j fits within);
  report = λ s is. rw (same_run r s is) (report_held r texts c);
  journal = λ s bytes is found. rw (same_run r s is) (journal_held r texts c bytes found);
  packets = λ s bytes is found. rw (same_run r s is) (packets_held r texts c bytes found);
  others = λ name other. others_put (run_files r.prefix texts) c name other;
  out = ap (λ out. out ++ texts.summary) (out_put (run_files r.prefix texts) c);
  err = err_put (run_files r.prefix texts) c;
}
holds (gen g) texts c fits = holds_alone (gen g) texts c (gen_is_no_run g)
holds (check words) texts c fits = holds_alone (check words) texts c (check_is_no_run words)
holds (firm f) texts c fits = holds_alone (firm f) texts c (firm_is_no_run f)

pub holds_seen : (job : JobWords) (texts : Texts) (old new : Option Contents) → length texts.outputs ≤ 2 ^ 64 → new ≡ option_map (put_texts job texts) old
    → IfSome old (λ c. IfSome new (HoldsTexts job texts c))
holds_seen job texts None new fits written = tt
holds_seen job texts (Some c) new fits written = rw written (holds job texts c fits)
