-- One record of a file.
use Rattle.std.proofs.Common.{◌≡◌, ℕ, ◌+◌, ◌^◌, ◌<◌, ◌≤◌, Bool, List, ◌++◌, length, take, drop, refl, sym, ap, ◌∙◌, append_assoc, arith}
use Rattle.std.proofs.lemmas.List.{drop-drop, take-append-drop, length-drop, length-take-le}
use Rattle.pcap_records.specs.declared.order.Order.{Order}
use Rattle.pcap_records.specs.Format.{record_header, nanos_of}
use Rattle.pcap_records.specs.Faults.{Announces}
use Rattle.pcap_records.specs.Records.{IsStored}

-- the header of a record stands at a place, of numbers of 32 bits
pub record HeaderAt (order : Order) (file : List ℕ) (at : ℕ) : Type 0 where
  pub captured : ℕ
  pub announced : Announces order (drop at file) captured (drop (at + 16) file)
  pub seconds : announced.seconds < 2 ^ 32
  pub fraction : announced.fraction < 2 ^ 32
  pub original : announced.original < 2 ^ 32
  pub fits : captured < 2 ^ 32

-- a record whose captured bytes end within the file is whole
pub stored : (order : Order) (nano : Bool) (file : List ℕ) (at : ℕ) (h : HeaderAt order file at) → h.captured ≤ 262144
    → at + 16 + h.captured ≤ length file
    → IsStored order nano file at (record {
      seconds = h.announced.seconds;
      nanos = nanos_of nano h.announced.fraction;
      original = h.announced.original;
      start = at + 16;
      len = h.captured;
    })
stored order nano file at h few within =
    let a = h.announced in
    let body = take h.captured (drop (at + 16) file) in
    let len : length body ≡ h.captured = length-take-le h.captured (drop (at + 16) file) (omega (arith, length-drop (at + 16) file)) in
    let next = at + 16 + h.captured in
    let split : drop (at + 16) file ≡ body ++ drop next file =
    sym (take-append-drop h.captured (drop (at + 16) file)) ∙ ap (λ (w : List ℕ). body ++ w) (drop-drop h.captured (at + 16) file) in
    let front : ℕ → List ℕ = λ n. record_header order a.seconds a.fraction n a.original in
    record {
      record_there = record { seconds = a.seconds; fraction = a.fraction; original = a.original; bytes = body };
      each = record { seconds = h.seconds; fraction = h.fraction; original = h.original; bytes = omega arith };
      spelled =
          a.spelled ∙ ap (λ (w : List ℕ). front h.captured ++ w) split ∙ sym (append_assoc (front h.captured) body (drop next file))
          ∙ ap (λ (n : ℕ). front n ++ body ++ drop next file) (sym len);
      place = refl;
      within = within;
      packet = refl;
    }
