-- A file is spelled in one way: one header, and one list of whole records before what is no record.
use Rattle.std.proofs.Common.{◌≡◌, ℕ, ◌+◌, ◌^◌, ◌<◌, Bool, true, false, cond, eqb, List, [], ◌∷◌, ◌++◌, length, get_or, refl, sym, ap, subst, ◌∙◌}
use Rattle.std.proofs.Common.{append_assoc, arith, lit<}
use Rattle.std.specs.List.{AllByRecursion}
use Rattle.std.proofs.lemmas.List.{length-append}
use Rattle.pcap_records.specs.declared.link.Link.{Link}
use Rattle.pcap_records.specs.declared.link.Link.TheVariants.{Ethernet, RawIp}
use Rattle.pcap_records.specs.declared.order.Order.{Order}
use Rattle.pcap_records.specs.declared.order.Order.TheVariants.{Big, Little}
use Rattle.pcap_records.specs.Format.{number_bytes, magic, link_type, Header, header_bytes, Record, IsRecord, record_header, record_bytes}
use Rattle.pcap_records.specs.Captures.{HasHeader, records_bytes}
use Rattle.pcap_records.specs.Faults.{Announces, IsCut, in_header, in_bytes, IsLong}
use Rattle.pcap_records.proofs.Numbers.{same_parts, same_numbers, length-number_bytes}

-- ---- the header

-- the byte order and the unit that four bytes say, where they are a magic number
unit_in : List ℕ → Order × Bool
unit_in bytes = (cond (eqb (get_or bytes 0 0) 0xa1) Big Little, cond (eqb (get_or bytes 2 0) 0x3c) true (eqb (get_or bytes 0 0) 0x4d))

unit_in-magic : (order : Order) (nano : Bool) → unit_in (number_bytes order 4 (magic nano)) ≡ (order, nano)
unfolding unit_in number_bytes
unit_in-magic Big true = refl
unit_in-magic Big false = refl
unit_in-magic Little true = refl
unit_in-magic Little false = refl

pub unit_once : (order order' : Order) (nano nano' : Bool) → number_bytes order 4 (magic nano) ≡ number_bytes order' 4 (magic nano') → (order ≡ order')
    × (nano ≡ nano')
unit_once order order' nano nano' e =
    let same : (order, nano) ≡ (order', nano') = sym (unit_in-magic order nano) ∙ ap unit_in e ∙ unit_in-magic order' nano' in
    (ap (λ (p : Order × Bool). p.0) same, ap (λ (p : Order × Bool). p.1) same)

pub link_once : (link link' : Link) → link_type link ≡ link_type link' → link ≡ link'
link_once Ethernet Ethernet e = refl
link_once RawIp RawIp e = refl
link_once Ethernet RawIp e = absurd (omega arith)
link_once RawIp Ethernet e = absurd (omega arith)

pub spelled_apart : (h : Header) (free rest : List ℕ) → header_bytes h free ++ rest ≡ number_bytes h.order 4 (magic h.nano)
    ++ (number_bytes h.order 2 h.major ++ (number_bytes h.order 2 h.minor ++ (free ++ (number_bytes h.order 4 h.link ++ rest))))
spelled_apart h free rest = simp append_assoc

pub header_once : (file : List ℕ) (h h' : Header) (rest rest' : List ℕ) → HasHeader file h rest → HasHeader file h' rest' → (h ≡ h') × (rest ≡ rest')
header_once file h h' rest rest' p q =
    let e = sym (spelled_apart h p.free rest) ∙ sym p.spelled ∙ q.spelled ∙ spelled_apart h' q.free rest' in
    let front = same_parts (number_bytes h.order 4 (magic h.nano)) (number_bytes h'.order 4 (magic h'.nano)) _ _
    (length-number_bytes h.order 4 (magic h.nano) ∙ sym (length-number_bytes h'.order 4 (magic h'.nano))) e in
    let unit = unit_once h.order h'.order h.nano h'.nano front.0 in
    let back = subst (λ (o : Order). number_bytes h.order 2 h.major
    ++ (number_bytes h.order 2 h.minor ++ (p.free ++ (number_bytes h.order 4 h.link ++ rest))) ≡ number_bytes o 2 h'.major
    ++ (number_bytes o 2 h'.minor ++ (q.free ++ (number_bytes o 4 h'.link ++ rest')))) (sym unit.0) front.1 in
    let major = same_numbers h.order 2 h.major h'.major _ _ p.major q.major back in
    let minor = same_numbers h.order 2 h.minor h'.minor _ _ p.minor q.minor major.1 in
    let free = same_parts p.free q.free _ _ (p.twelve ∙ sym q.twelve) minor.1 in
    let link = same_numbers h.order 4 h.link h'.link rest rest' p.link q.link free.1 in
    let said : Order → Bool → ℕ → ℕ → ℕ → Header = λ o n a b c. record { order = o; nano = n; major = a; minor = b; link = c } in
    let same : said h.order h.nano h.major h.minor h.link ≡ said h'.order h'.nano h'.major h'.minor h'.link =
    ap (λ o. said o h.nano h.major h.minor h.link) unit.0 ∙ ap (λ n. said h'.order n h.major h.minor h.link) unit.1
    ∙ ap (λ a. said h'.order h'.nano a h.minor h.link) major.0
    ∙ ap (λ b. said h'.order h'.nano h'.major b h.link) minor.0 ∙ ap (λ c. said h'.order h'.nano h'.major h'.minor c) link.0 in
    (same, link.1)

-- ---- one record

-- what stands in front begins with the header of a record, whose captured length is of 32 bits
pub record Announced (order : Order) (rest : List ℕ) : Type 0 where
  pub captured : ℕ
  pub more : List ℕ
  pub header : Announces order rest captured more
  pub fits : captured < 2 ^ 32

announced_apart : (order : Order) (rest : List ℕ) (p : Announced order rest) → rest ≡ number_bytes order 4 p.header.seconds
    ++ (number_bytes order 4 p.header.fraction ++ (number_bytes order 4 p.captured ++ (number_bytes order 4 p.header.original ++ p.more)))
announced_apart order rest p = p.header.spelled ∙ simp append_assoc

same_lengths : (order : Order) (x y : ℕ) → length (number_bytes order 4 x) ≡ length (number_bytes order 4 y)
same_lengths order x y = length-number_bytes order 4 x ∙ sym (length-number_bytes order 4 y)

four_once : (order : Order) (x y : ℕ) → x < 256 ^ 4 → y < 256 ^ 4 → number_bytes order 4 x ≡ number_bytes order 4 y → x ≡ y
four_once order x y x_fits y_fits e = (same_numbers order 4 x y [] [] x_fits y_fits (ap (λ (w : List ℕ). w ++ []) e)).0

-- two headers of records that are spelled alike: the same fields, followed by the same bytes
pub record IsSameHeader (order : Order) (rest : List ℕ) (p q : Announced order rest) : Type 0 where
  pub seconds : number_bytes order 4 p.header.seconds ≡ number_bytes order 4 q.header.seconds
  pub fraction : number_bytes order 4 p.header.fraction ≡ number_bytes order 4 q.header.fraction
  pub captured : p.captured ≡ q.captured
  pub original : number_bytes order 4 p.header.original ≡ number_bytes order 4 q.header.original
  pub more : p.more ≡ q.more

pub announced_once : (order : Order) (rest : List ℕ) (p q : Announced order rest) → IsSameHeader order rest p q
announced_once order rest p q =
    let whole = sym (announced_apart order rest p) ∙ announced_apart order rest q in
    let a = same_parts _ _ _ _ (same_lengths order p.header.seconds q.header.seconds) whole in
    let b = same_parts _ _ _ _ (same_lengths order p.header.fraction q.header.fraction) a.1 in
    let c = same_parts _ _ _ _ (same_lengths order p.captured q.captured) b.1 in
    let d = same_parts _ _ p.more q.more (same_lengths order p.header.original q.header.original) c.1 in
    record { seconds = a.0; fraction = b.0; captured = four_once order p.captured q.captured p.fits q.fits c.0; original = d.0; more = d.1 }

record_apart : (order : Order) (r : Record) (rest : List ℕ)
    → record_bytes order r ++ rest ≡ record_header order r.seconds r.fraction (length r.bytes) r.original ++ (r.bytes ++ rest)
record_apart order r rest = append_assoc (record_header order r.seconds r.fraction (length r.bytes) r.original) r.bytes rest

-- a record announces its captured bytes
abbrev announced_by : (order : Order) (r : Record) (text more : List ℕ) → IsRecord r → text ≡ record_bytes order r ++ more → Announced order text
announced_by order r text more is e =
    record {
      captured = length r.bytes;
      more = r.bytes ++ more;
      header = record { seconds = r.seconds; fraction = r.fraction; original = r.original; spelled = e ∙ record_apart order r more };
      fits = omega (arith, is.bytes);
    }

pub record_once : (order : Order) (r r' : Record) (rest rest' : List ℕ) → IsRecord r → IsRecord r' → record_bytes order r ++ rest ≡ record_bytes order r'
    ++ rest' → (r ≡ r') × (rest ≡ rest')
record_once order r r' rest rest' is is' e =
    let text = record_bytes order r ++ rest in
    let same = announced_once order text (announced_by order r text rest is refl) (announced_by order r' text rest' is' e) in
    let s = four_once order r.seconds r'.seconds is.seconds is'.seconds same.seconds in
    let f = four_once order r.fraction r'.fraction is.fraction is'.fraction same.fraction in
    let o = four_once order r.original r'.original is.original is'.original same.original in
    let parts = same_parts r.bytes r'.bytes rest rest' same.captured same.more in
    let made : ℕ → ℕ → ℕ → List ℕ → Record = λ a b c d. record { seconds = a; fraction = b; original = c; bytes = d } in
    let whole : made r.seconds r.fraction r.original r.bytes ≡ made r'.seconds r'.fraction r'.original r'.bytes =
    ap (λ a. made a r.fraction r.original r.bytes) s ∙ ap (λ b. made r'.seconds b r.original r.bytes) f ∙ ap (λ c. made r'.seconds r'.fraction c r.bytes) o
    ∙ ap (λ d. made r'.seconds r'.fraction r'.original d) parts.0 in
    (whole, parts.1)

-- ---- what is no record

length-record_header : (order : Order) (s f c o : ℕ) → length (record_header order s f c o) ≡ 16
length-record_header order s f c o =
    let a = length-number_bytes order 4 s in
    let b = length-number_bytes order 4 f in
    let d = length-number_bytes order 4 c in
    let g = length-number_bytes order 4 o in
    simp length-append (omega arith)

pub length-record_bytes : (order : Order) (r : Record) → length (record_bytes order r) ≡ 16 + length r.bytes
length-record_bytes order r =
    length-append (record_header order r.seconds r.fraction (length r.bytes) r.original) r.bytes
    ∙ ap (λ (n : ℕ). n + length r.bytes) (length-record_header order r.seconds r.fraction (length r.bytes) r.original)

-- no whole record stands in front
abbrev pub HasNoRecord : Order → List ℕ → Type 0
HasNoRecord order rest = (r : Record) (more : List ℕ) → IsRecord r → rest ≡ record_bytes order r ++ more → ⊥

too_short : (order : Order) (rest : List ℕ) → length rest < 16 → HasNoRecord order rest
too_short order rest short r more is e =
    let len = ap length e ∙ length-append (record_bytes order r) more in
    let header = length-record_bytes order r in
    omega arith

pub no_record_at_end : (order : Order) → HasNoRecord order []
no_record_at_end order = too_short order [] (lit< tt)

pub announced_long : (order : Order) (rest : List ℕ) (c : ℕ) (more : List ℕ) → Announces order rest c more → length rest ≡ 16 + length more
announced_long order rest c more p =
    ap length p.spelled ∙ length-append (record_header order p.seconds p.fraction c p.original) more
    ∙ ap (λ (n : ℕ). n + length more) (length-record_header order p.seconds p.fraction c p.original)

pub no_record_when_cut : (order : Order) (rest : List ℕ) → IsCut order rest → HasNoRecord order rest
no_record_when_cut order rest (in_header some short) = too_short order rest short
no_record_when_cut order rest (in_bytes c bytes announced few short) = λ r more is e.
    let cut : Announced order rest = record { captured = c; more = bytes; header = announced; fits = omega arith } in
    let same = announced_once order rest cut (announced_by order r rest more is e) in
    omega (arith, same.captured, ap length same.more, length-append r.bytes more)

-- what a record announces that is too long
abbrev pub long_announced : (order : Order) (rest : List ℕ) (c : ℕ) → IsLong order rest c → Announced order rest
long_announced order rest c long = record { captured = c; more = long.more; header = long.announced; fits = long.fits }

pub no_record_when_long : (order : Order) (rest : List ℕ) (c : ℕ) → IsLong order rest c → HasNoRecord order rest
no_record_when_long order rest c long r more is e =
    let same = announced_once order rest (long_announced order rest c long) (announced_by order r rest more is e) in
    omega (arith, same.captured, long.over, is.bytes)

-- ---- the records

-- whole records, and then what begins with none
pub record AreAllRecords (order : Order) (records : List Record) (rest : List ℕ) : Type 0 where
  pub each : AllByRecursion IsRecord records
  pub no_record : HasNoRecord order rest

pub records_once : (order : Order) (records records' : List Record) (rest rest' : List ℕ) → AreAllRecords order records rest
    → AreAllRecords order records' rest' → records_bytes order records ++ rest ≡ records_bytes order records' ++ rest'
    → (records ≡ records') × (rest ≡ rest')
records_once order [] [] rest rest' p q e = (refl, e)
records_once order [] (r' ∷ rs') rest rest' p q e =
    absurd (p.no_record r' (records_bytes order rs' ++ rest') q.each.0 (e ∙ append_assoc (record_bytes order r') (records_bytes order rs') rest'))
records_once order (r ∷ rs) [] rest rest' p q e =
    absurd (q.no_record r (records_bytes order rs ++ rest) p.each.0 (sym e ∙ append_assoc (record_bytes order r) (records_bytes order rs) rest))
records_once order (r ∷ rs) (r' ∷ rs') rest rest' p q e =
    let first = record_once order r r' (records_bytes order rs ++ rest) (records_bytes order rs' ++ rest') p.each.0 q.each.0
    (sym (append_assoc (record_bytes order r) (records_bytes order rs) rest) ∙ e ∙ append_assoc (record_bytes order r') (records_bytes order rs') rest') in
    let others = records_once order rs rs' rest rest' (record { each = p.each.1; no_record = p.no_record })
    (record { each = q.each.1; no_record = q.no_record }) first.1 in
    (ap (λ (x : Record). x ∷ rs) first.0 ∙ ap (λ (xs : List Record). r' ∷ xs) others.0, others.1)
