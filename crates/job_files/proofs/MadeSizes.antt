-- How long the table and the captures of a `gen` job are.
use Rattle.std.proofs.Common.{◌≡◌, ◌<◌, ◌≤◌, ◌+◌, ◌-◌, ◌*◌, ◌%◌, ◌^◌, ℕ, Bool, true, false, List, [], ◌∷◌, ◌++◌, length, refl, sym, ◌∙◌, ap, subst, arith}
use Rattle.std.proofs.Common.{length-append}
use Rattle.std.specs.Prelude.{All, flat_map, replicate, decimal, codes, if◌then◌else◌}
use Rattle.std.proofs.Math.Nat.{mod-lt}
use Rattle.std.proofs.lemmas.Fmt.{length-decimal-le_succ}
use Rattle.std.proofs.lemmas.List.{length-map, length-replicate}
use Rattle.std.proofs.lemmas.List.Elements.{All-head, All-tail, All-from_get_or, All-map, All-same}
use Rattle.std.proofs.lemmas.List.FromFn.{length-range_with_len, get_or-range_with_len}
use Rattle.switch_words.specs.declared.job.GenJob.{GenJob}
use Rattle.pcap_records.specs.declared.link.Link.TheVariants.{Ethernet}
use Rattle.pcap_records.specs.declared.order.Order.TheVariants.{Little}
use Rattle.pcap_records.specs.Format.{record_bytes}
use Rattle.pcap_records.specs.Output.{header_text}
use Rattle.pcap_records.proofs.Once.{length-record_bytes}
use Rattle.pcap_records.proofs.Output.{length-header_text}
use Rattle.switch_plan.specs.Made.{below, made_table, made_captures, made_capture, made_record, made_number, made_length, made_level, made_group}
use Rattle.switch_plan.specs.Made.{made_port, made_frame, frame_begin, address_text, ports_text, end_text, route_text, group_text, level_text}
use Rattle.job_files.specs.FileSteps.{AreOfSize}

-- pieces of at most so many bytes, joined
length-pieces : {X : Type 0} (f : X → List ℕ) (most : ℕ) (xs : List X) → All (λ x. length (f x) ≤ most) xs → length (flat_map f xs) ≤ length xs * most
length-pieces f most [] all = omega arith
length-pieces f most (x ∷ xs) all =
    let first = All-head (λ x. length (f x) ≤ most) x xs all in
    let rest = length-pieces f most xs (All-tail (λ x. length (f x) ≤ most) x xs all) in
    let long : length (flat_map f (x ∷ xs)) ≡ length (f x) + length (flat_map f xs) = length-append (f x) (flat_map f xs) in
    omega (arith, first, rest, long)

-- what holds of each number below n holds of all of them
all_below : (P : ℕ → Type 0) (n : ℕ) → ((k : ℕ) → k < n → P k) → All P (below n)
all_below P n each = All-from_get_or P (below n) 0 (λ i i_in. let i_below : i < n = omega (arith, i_in, length-range_with_len 0 n) in let place : 0 + i ≡ i =
    omega arith in subst P (sym (get_or-range_with_len 0 n i 0 i_below ∙ place)) (each i i_below))

-- two texts, one after the other
joined : (a b : List ℕ) (m n k : ℕ) → length a ≤ m → length b ≤ n → m + n ≡ k → length (a ++ b) ≤ k
joined a b m n k a_short b_short all = omega (arith, a_short, b_short, all, length-append a b)

either : (which : Bool) (a b : List ℕ) (most : ℕ) → length a ≤ most → length b ≤ most → length (if which then a else b) ≤ most
either true a b most a_short b_short = a_short
either false a b most a_short b_short = b_short

-- numbers below 64 have few digits
digits : (n : ℕ) → n < 64 → length (decimal n) ≤ 64
digits n small = let long = length-decimal-le_succ n (omega (arith, small)) in omega (arith, long, small)

-- ---- the table

address_short : (level group port : ℕ) → level < 64 → group < 64 → port < 64 → length (address_text level group port) ≤ 201
address_short level group port level_in group_in port_in =
    let one = codes "10." ++ decimal level in
    let two = codes "10." ++ decimal level ++ codes "." in
    let three = codes "10." ++ decimal level ++ codes "." ++ decimal group in
    let four = codes "10." ++ decimal level ++ codes "." ++ decimal group ++ codes "." in
    let five = codes "10." ++ decimal level ++ codes "." ++ decimal group ++ codes "." ++ decimal port in
    let one_short = joined (codes "10.") (decimal level) 3 64 67 (omega arith) (digits level level_in) (omega arith) in
    let two_short = joined one (codes ".") 67 1 68 one_short (omega arith) (omega arith) in
    let three_short = joined two (decimal group) 68 64 132 two_short (digits group group_in) (omega arith) in
    let four_short = joined three (codes ".") 132 1 133 three_short (omega arith) (omega arith) in
    let five_short = joined four (decimal port) 133 64 197 four_short (digits port port_in) (omega arith) in
    joined five (codes "/32 ") 197 4 201 five_short (omega arith) (omega arith)

ports_short : (ports group port : ℕ) → 0 < ports → ports ≤ 64 → port < ports → length (ports_text ports group port) ≤ 129
ports_short ports group port some few port_in =
    let next_in : (port + 1) % ports < ports = mod-lt (port + 1) some in
    let one = digits port (omega (arith, port_in, few)) in
    either _ (decimal port ++ codes "," ++ decimal ((port + 1) % ports)) (decimal port) 129
    (joined _ (decimal ((port + 1) % ports)) 65 64 129 (joined (decimal port) (codes ",") 64 1 65 one (omega arith) (omega arith))
    (digits ((port + 1) % ports) (omega (arith, next_in, few))) (omega arith))
    (omega (arith, one))

end_short : (level : ℕ) → level < 64 → length (end_text level) ≤ 66
end_short level level_in =
    joined (codes " " ++ decimal level) (10 ∷ []) 65 1 66 (joined (codes " ") (decimal level) 1 64 65 (omega arith) (digits level level_in) (omega arith))
    (omega arith) (omega arith)

route_short : (ports level group port : ℕ) → 0 < ports → ports ≤ 64 → level < 64 → group < 64 → port < ports → length (route_text ports level group port) ≤ 396
route_short ports level group port some few level_in group_in port_in =
    joined (address_text level group port ++ ports_text ports group port) (end_text level) 330 66 396
    (joined (address_text level group port) (ports_text ports group port) 201 129 330
    (address_short level group port level_in group_in (omega (arith, port_in, few))) (ports_short ports group port some few port_in) (omega arith))
    (end_short level level_in) (omega arith)

below_pieces : (f : ℕ → List ℕ) (most n : ℕ) → ((k : ℕ) → k < n → length (f k) ≤ most) → length (flat_map f (below n)) ≤ n * most
below_pieces f most n each =
    let long = length-pieces f most (below n) (all_below (λ k. length (f k) ≤ most) n each) in
    subst (λ count. length (flat_map f (below n)) ≤ count * most) (length-range_with_len 0 n) long

group_short : (ports level group : ℕ) → 0 < ports → ports ≤ 64 → level < 64 → group < 64 → length (group_text ports level group) ≤ 64 * 396
group_short ports level group some few level_in group_in =
    let long = below_pieces (route_text ports level group) 396 ports (λ port port_in. route_short ports level group port some few level_in group_in port_in) in
    omega (arith, long, few)

level_short : (ports level : ℕ) → 0 < ports → ports ≤ 64 → level < 64 → length (level_text ports level) ≤ 2 * (64 * 396)
level_short ports level some few level_in =
    below_pieces (group_text ports level) (64 * 396) 2 (λ group group_in. group_short ports level group some few level_in (omega (arith, group_in)))

table_short : (ports : ℕ) → 0 < ports → ports ≤ 64 → length (made_table ports) ≤ 4 * (2 * (64 * 396))
table_short ports some few = below_pieces (level_text ports) (2 * (64 * 396)) 4 (λ level level_in. level_short ports level some few (omega (arith, level_in)))

-- ---- the captures

length-frame_begin : length frame_begin ≡ 30
unfolding frame_begin
length-frame_begin = refl

frame_short : (ports h : ℕ) → length (made_frame ports h) ≤ 1500
unfolding made_frame
frame_short ports h =
    let zero_byte : ℕ = 0 in
    let rest = length-replicate (made_length h - 34) zero_byte in
    let first = length-frame_begin in
    let short : h % 1441 < 1441 = omega arith in
    joined _ (replicate (made_length h - 34) zero_byte) 34 1466 1500
    (joined frame_begin (10 ∷ made_level h ∷ made_group h ∷ made_port ports h ∷ []) 30 4 34 (omega (arith, first)) (omega arith) (omega arith))
    (omega (arith, rest, short)) (omega arith)

record_short : (job : GenJob) (port k : ℕ) → length (record_bytes Little (made_record job port k)) ≤ 1516
record_short job port k =
    let long = length-record_bytes Little (made_record job port k) in
    let frame = frame_short job.ports (made_number job.seed port k) in
    omega (arith, long, frame)

capture_short : (job : GenJob) (port : ℕ) → job.count ≤ 4000 → length (made_capture job port) ≤ 6064024
capture_short job port few =
    let records = below_pieces (λ k. record_bytes Little (made_record job port k)) 1516 job.count (λ k k_in. record_short job port k) in
    let header = length-header_text false Ethernet in
    joined (header_text false Ethernet) _ 24 6064000 6064024 (omega (arith, header)) (omega (arith, records, few)) (omega arith)

-- ---- both

pub made_of_size : (job : GenJob) (table : List ℕ) (captures : List (List ℕ)) → 0 < job.ports → job.ports ≤ 64 → job.count ≤ 4000
    → table ≡ made_table job.ports → captures ≡ made_captures job → AreOfSize table captures
made_of_size job table captures some few packets table_is captures_are =
    let ports : length captures ≡ job.ports = ap length captures_are ∙ length-map (below job.ports) (made_capture job) ∙ length-range_with_len 0 job.ports in
    let short = table_short job.ports some few in
    let fit : All (λ bytes. length bytes < 2 ^ 32) (made_captures job) = All-map (λ bytes. length bytes < 2 ^ 32) (made_capture job) (below job.ports)
    (all_below (λ port. length (made_capture job port) < 2 ^ 32) job.ports
    (λ port port_in. let capture = capture_short job port packets in omega (arith, capture))) in
    record {
      ports = record { some = omega (arith, ports, some); most = omega (arith, ports, few) };
      table_fits = omega (arith, short, ap length table_is);
      captures_fit = All-same (λ bytes. length bytes < 2 ^ 32) captures (made_captures job) captures_are fit;
    }
