-- The destination of a frame as a function is the one that the frame has.
use Rattle.std.proofs.Common.{◌≡◌, ℕ, ◌+◌, ◌/◌, ◌≤◌, ◌==◌, ◌↔◌, Bool, true, false, cond, List, [], ◌∷◌, length, slice_index, Option, None, Some, refl}
use Rattle.std.proofs.Common.{sym, ap, ◌∙◌, inl, inr}
use Rattle.std.specs.Prelude.{option_and_then}
use Rattle.std.specs.Int.{w32, from_be_bytes}
use Rattle.std.proofs.lemmas.Bool.{leb-true, le-leb, eqb-true, eq-eqb, and_parts, and_from, cond-true}
use Rattle.std.proofs.lemmas.Option.{cond_some}
use Rattle.pcap_records.specs.declared.link.Link.{Link}
use Rattle.pcap_records.specs.declared.link.Link.TheVariants.{Ethernet, RawIp}
use Rattle.frame_fields.specs.Destination.{type_at, packet_place, destination_at, destination_of, ipv4_type, tag_type, HasType, BeginsAt, HasDestination}

-- ---- a value that is there where a test holds

-- ---- type fields

type_read : (frame : List ℕ) (place number : ℕ) → type_at frame place ≡ Some number → HasType frame place number
type_read frame place number e =
    let t = cond_some _ _ number e in
    record { within = leb-true (place + 2) (length frame) t.0; number_is = t.1 }

type_there : (frame : List ℕ) (place number : ℕ) → HasType frame place number → type_at frame place ≡ Some number
type_there frame place number h = cond-true _ (Some _) None (le-leb (place + 2) (length frame) h.within) ∙ ap Some h.number_is

-- ---- where the packet begins

-- the place by the type after a VLAN tag, and by the first type
abbrev inner_step : ℕ → Option ℕ
inner_step inner = cond (inner == ipv4_type) (Some 18) None

abbrev first_step : List ℕ → ℕ → Option ℕ
first_step frame type = cond (type == tag_type) (option_and_then inner_step (type_at frame 16)) (cond (type == ipv4_type) (Some 14) None)

inner_read : (frame : List ℕ) (place : ℕ) → HasType frame 12 0x8100 → (o : Option ℕ) → type_at frame 16 ≡ o → option_and_then inner_step o ≡ Some place
    → BeginsAt Ethernet frame place
inner_read frame place first None at e = absurd (cc)
inner_read frame place first (Some inner) at e =
    let t = cond_some (inner == ipv4_type) 18 place e in
    inr (sym t.1, first, type_read frame 16 0x0800 (at ∙ ap Some (eqb-true inner ipv4_type t.0)))

first_read : (frame : List ℕ) (place type : ℕ) → type_at frame 12 ≡ Some type → (tag : Bool) → (type == tag_type) ≡ tag
    → cond tag (option_and_then inner_step (type_at frame 16)) (cond (type == ipv4_type) (Some 14) None) ≡ Some place → BeginsAt Ethernet frame place
first_read frame place type at true is e =
    inner_read frame place (type_read frame 12 0x8100 (at ∙ ap Some (eqb-true type tag_type is))) (type_at frame 16) refl e
first_read frame place type at false is e =
    let t = cond_some (type == ipv4_type) 14 place e in
    inl (sym t.1, type_read frame 12 0x0800 (at ∙ ap Some (eqb-true type ipv4_type t.0)))

place_from : (frame : List ℕ) (place : ℕ) (o : Option ℕ) → type_at frame 12 ≡ o → option_and_then (first_step frame) o ≡ Some place
    → BeginsAt Ethernet frame place
place_from frame place None at e = absurd (cc)
place_from frame place (Some type) at e = first_read frame place type at (type == tag_type) refl e

place_read : (frame : List ℕ) (place : ℕ) → packet_place frame ≡ Some place → BeginsAt Ethernet frame place
unfolding packet_place
place_read frame place e = place_from frame place (type_at frame 12) refl e

place_there : (frame : List ℕ) (place : ℕ) → BeginsAt Ethernet frame place → packet_place frame ≡ Some place
unfolding packet_place
place_there frame place (inl h) = ap (λ o. option_and_then (first_step frame) o) (type_there frame 12 0x0800 h.1) ∙ ap Some (sym h.0)
place_there frame place (inr h) =
    ap (λ o. option_and_then (first_step frame) o) (type_there frame 12 0x8100 h.1)
    ∙ ap (λ o. option_and_then inner_step o) (type_there frame 16 0x0800 h.2) ∙ ap Some (sym h.0)

-- ---- the address

abbrev address_at : List ℕ → ℕ → ℕ
address_at frame place = from_be_bytes w32
    (slice_index frame (place + 16) ∷ slice_index frame (place + 17) ∷ slice_index frame (place + 18) ∷ slice_index frame (place + 19) ∷ [])

-- a header is there, of version 4 and with this address
record HasHeader (frame : List ℕ) (place address : ℕ) : Type 0 where
  pub header : place + 20 ≤ length frame
  pub version : slice_index frame place / 16 ≡ 4
  pub address_is : address_at frame place ≡ address

header_read : (frame : List ℕ) (place address : ℕ) → destination_at frame place ≡ Some address → HasHeader frame place address
header_read frame place address e =
    let t = cond_some _ (address_at frame place) address e in
    let tests = and_parts _ (slice_index frame place / 16 == 4) t.0 in
    record { header = leb-true (place + 20) (length frame) tests.0; version = eqb-true (slice_index frame place / 16) 4 tests.1; address_is = t.1 }

header_there : (frame : List ℕ) (place address : ℕ) → HasHeader frame place address → destination_at frame place ≡ Some address
header_there frame place address h =
    let both = and_from _ _ (le-leb (place + 20) (length frame) h.header) (eq-eqb (slice_index frame place / 16) 4 h.version) in
    cond-true _ (Some _) None both ∙ ap Some h.address_is

-- ---- the destination

destination_from : (frame : List ℕ) (address : ℕ) (o : Option ℕ) → packet_place frame ≡ o → option_and_then (destination_at frame) o ≡ Some address
    → HasDestination Ethernet frame address
destination_from frame address None at e = absurd (cc)
destination_from frame address (Some place) at e =
    let h = header_read frame place address e in
    record { offset = place; begins = place_read frame place at; header = h.header; version = h.version; address_is = h.address_is }

pub exact : (link : Link) (frame : List ℕ) (address : ℕ) → (destination_of link frame ≡ Some address) ↔ HasDestination link frame address
exact Ethernet frame address = (
  λ e. destination_from frame address (packet_place frame) refl e,
  λ h.
      ap (λ o. option_and_then (destination_at frame) o) (place_there frame h.offset h.begins)
      ∙ header_there frame h.offset address (record { header = h.header; version = h.version; address_is = h.address_is }),
)
exact RawIp frame address = (
  λ e.
      let h = header_read frame 0 address e in
      record { offset = 0; begins = refl; header = h.header; version = h.version; address_is = h.address_is },
  λ h.
      ap (λ place. destination_at frame place) (sym h.begins)
      ∙ header_there frame h.offset address (record { header = h.header; version = h.version; address_is = h.address_is }),
)
