-- Lists that grow by one step after the other, and the sizes of made frames.
use Rattle.std.proofs.Common.{◌≡◌, ◌∙◌, ℕ, ◌-◌, List, ◌++◌, length, ap, sym, arith, append_assoc}
use Rattle.std.proofs.lemmas.List.{length-replicate}
use Rattle.pcap_records.specs.declared.order.Order.TheVariants.{Little}
use Rattle.pcap_records.specs.Format.{record_header, record_bytes}
use Rattle.switch_words.specs.declared.job.GenJob.{GenJob}
use Rattle.switch_plan.specs.Made.{made_number, made_record, frame_begin, made_frame, made_length}

pub frame_length : (ports h : ℕ) → length (made_frame ports h) ≡ made_length h
unfolding made_frame frame_begin
frame_length ports h = omega (arith, length-replicate {A = ℕ} (made_length h - 34) 0)

-- a record's header and its frame are the record
pub record_made : (job : GenJob) (port k number : ℕ) (old mid : List ℕ) → number ≡ made_number job.seed port k
    → mid ≡ old ++ record_header Little k port (made_length number) (made_length number)
    → mid ++ made_frame job.ports number ≡ old ++ record_bytes Little (made_record job port k)
record_made job port k number old mid same header =
    let frame = made_frame job.ports number in
    ap (λ x. x ++ frame) header ∙ append_assoc old (record_header Little k port (made_length number) (made_length number)) frame
    ∙ ap (λ n. old ++ (record_header Little k port n (made_length number) ++ frame)) (sym (frame_length job.ports number))
    ∙ ap (λ h. old ++ (record_header Little k port (length (made_frame job.ports h)) (made_length h) ++ made_frame job.ports h)) same
