-- The header of a file, field by field.
use Rattle.std.proofs.Common.{◌≡◌, ◌≢◌, ℕ, ◌+◌, ◌^◌, ◌<◌, ◌≤◌, Bool, true, false, List, ◌++◌, length, take, drop, sym, ap, subst, ◌∙◌}
use Rattle.std.proofs.Common.{append_assoc, arith, lit<}
use Rattle.std.proofs.lemmas.List.{length-append, drop-drop, take-append-drop, length-drop, length-take-le}
use Rattle.pcap_records.specs.declared.link.Link.{Link}
use Rattle.pcap_records.specs.declared.order.Order.{Order}
use Rattle.pcap_records.specs.declared.order.Order.TheVariants.{Big, Little}
use Rattle.pcap_records.specs.Format.{number_bytes, number_in, magic, link_type, Header, header_of, header_bytes}
use Rattle.pcap_records.specs.Captures.{HasHeader}
use Rattle.pcap_records.proofs.Numbers.{IsBytes, IsBytes-drop, length-number_bytes, number_in-lt, number_in-number_bytes, read_four}

magic_fits : (nano : Bool) → magic nano < 256 ^ 4
magic_fits true = lit< tt
magic_fits false = lit< tt

-- a file that begins with a magic number has it as its first number
first_number : (order : Order) (nano : Bool) (file : List ℕ) → take 4 file ≡ number_bytes order 4 (magic nano) → number_in order 4 file ≡ magic nano
first_number order nano file e =
    ap (number_in order 4) (sym (take-append-drop 4 file) ∙ ap (λ (w : List ℕ). w ++ drop 4 file) e)
    ∙ number_in-number_bytes order 4 (magic nano) (drop 4 file) (magic_fits nano)

-- a file whose first number is no magic number in either order has none
pub no_magic : (file : List ℕ) → ((nano : Bool) → number_in Big 4 file ≢ magic nano) → ((nano : Bool) → number_in Little 4 file ≢ magic nano)
    → (order : Order) (nano : Bool) → take 4 file ≢ number_bytes order 4 (magic nano)
no_magic file not_big not_little Big nano e = not_big nano (first_number Big nano file e)
no_magic file not_big not_little Little nano e = not_little nano (first_number Little nano file e)

-- the link number of a file, as it stands
abbrev pub link_in : Order → List ℕ → ℕ
link_in order file = number_in order 4 (drop 20 file)

-- the fields of a header stand at the front of a file
pub record IsFront (file : List ℕ) (h : Header) : Type 0 where
  pub magic_there : file ≡ number_bytes h.order 4 (magic h.nano) ++ drop 4 file
  pub major_there : drop 4 file ≡ number_bytes h.order 2 h.major ++ drop 6 file
  pub minor_there : drop 6 file ≡ number_bytes h.order 2 h.minor ++ drop 8 file
  pub major : h.major < 2 ^ 16
  pub minor : h.minor < 2 ^ 16
  pub link : h.link ≡ link_in h.order file

-- then it has this header
pub has_header : (h : Header) (file : List ℕ) → IsBytes file → 24 ≤ length file → IsFront file h → HasHeader file h (drop 24 file)
has_header h file fits long front =
    let n0 = number_bytes h.order 4 (magic h.nano) in
    let n4 = number_bytes h.order 2 h.major in
    let n6 = number_bytes h.order 2 h.minor in
    let free = take 12 (drop 8 file) in
    let n20 = number_bytes h.order 4 h.link in
    let e8 : drop 8 file ≡ free ++ drop 20 file = sym (take-append-drop 12 (drop 8 file)) ∙ ap (λ (w : List ℕ). free ++ w) (drop-drop 12 8 file) in
    let e20 : drop 20 file ≡ n20 ++ drop 24 file = read_four h.order file 20 h.link long fits front.link in
    let whole : file ≡ n0 ++ (n4 ++ (n6 ++ (free ++ (n20 ++ drop 24 file)))) =
    front.magic_there ∙ ap (λ (w : List ℕ). n0 ++ w) (front.major_there ∙ ap (λ (w : List ℕ). n4 ++ w) (front.minor_there
    ∙ ap (λ (w : List ℕ). n6 ++ w) (e8 ∙ ap (λ (w : List ℕ). free ++ w) e20))) in
    record {
      major = front.major;
      minor = front.minor;
      link = rw front.link (number_in-lt h.order 4 (drop 20 file) (IsBytes-drop 20 file fits));
      free = free;
      twelve = length-take-le 12 (drop 8 file) (omega (arith, length-drop 8 file));
      spelled = whole ∙ sym (simp append_assoc);
    }

pub length-header_bytes : (h : Header) (free : List ℕ) → length free ≡ 12 → length (header_bytes h free) ≡ 24
length-header_bytes h free twelve =
    let a = length-number_bytes h.order 4 (magic h.nano) in
    let b = length-number_bytes h.order 2 h.major in
    let c = length-number_bytes h.order 2 h.minor in
    let d = length-number_bytes h.order 4 h.link in
    simp length-append (omega arith)

-- a file with a header has its 24 bytes
pub header_long : (file : List ℕ) (h : Header) (rest : List ℕ) → HasHeader file h rest → length file ≡ 24 + length rest
header_long file h rest header =
    ap length header.spelled ∙ length-append (header_bytes h header.free) rest
    ∙ ap (λ (n : ℕ). n + length rest) (length-header_bytes h header.free header.twelve)

-- a header of version 2.4 and of a link type that is read
pub good_header : (h : Header) (link : Link) (file rest : List ℕ) → h.major ≡ 2 → h.minor ≡ 4 → h.link ≡ link_type link → HasHeader file h rest
    → HasHeader file (header_of h.order h.nano link) rest
good_header h link file rest major minor number header =
    let said : ℕ → ℕ → ℕ → Header = λ a b c. record { order = h.order; nano = h.nano; major = a; minor = b; link = c } in
    let same : said h.major h.minor h.link ≡ said 2 4 (link_type link) = ap (λ (a : ℕ). said a h.minor h.link) major
    ∙ ap (λ (b : ℕ). said 2 b h.link) minor ∙ ap (λ (c : ℕ). said 2 4 c) number in
    subst (λ (h : Header). HasHeader file h rest) same header
