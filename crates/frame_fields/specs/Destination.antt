-- The IPv4 destination address of a packet.
use Rattle.std.specs.Prelude.{◌≡◌, ◌⊎◌, ℕ, ◌+◌, ◌≤◌, ◌/◌, ◌==◌, ◌&&◌, nat_le, if◌then◌else◌, List, [], ◌∷◌, length, slice_index, Option, None, Some}
use Rattle.std.specs.Prelude.{option_and_then}
use Rattle.std.specs.Int.{w16, w32, from_be_bytes}
use Rattle.pcap_records.specs.declared.link.Link.{Link}
use Rattle.pcap_records.specs.declared.link.Link.TheVariants.{Ethernet, RawIp}

-- the type field at this place of an Ethernet frame has this number
pub record HasType (frame : List ℕ) (place number : ℕ) : Type 0 where
  pub within : place + 2 ≤ length frame
  pub number_is : from_be_bytes w16 (slice_index frame place ∷ slice_index frame (place + 1) ∷ []) ≡ number

-- where a frame's IPv4 packet begins: in an Ethernet frame after the type field at byte 12, or after that at byte 16
-- where a VLAN tag comes first; a raw IP packet begins at its front
abbrev pub BeginsAt : Link → List ℕ → ℕ → Type 0
BeginsAt Ethernet frame offset = ((offset ≡ 14) × HasType frame 12 0x0800) ⊎ ((offset ≡ 18) × HasType frame 12 0x8100 × HasType frame 16 0x0800)
BeginsAt RawIp frame offset = offset ≡ 0

-- A frame has an IPv4 packet with this destination address: its header of 20 bytes is there, its version is 4, and the
-- address is the four bytes from byte 16 of the header on, the highest first.
pub record HasDestination (link : Link) (frame : List ℕ) (address : ℕ) : Type 0 where
  pub offset : ℕ
  pub begins : BeginsAt link frame offset
  pub header : offset + 20 ≤ length frame
  pub version : slice_index frame offset / 16 ≡ 4
  pub address_is : from_be_bytes w32
      (slice_index frame (offset + 16) ∷ slice_index frame (offset + 17) ∷ slice_index frame (offset + 18) ∷ slice_index frame (offset + 19) ∷ []) ≡ address

-- the steps of a `do` block: it gives nothing where one of them does
infixl 10 ◌>>=◌
abbrev pub ◌>>=◌ : {A B : Type 0} → Option A → (A → Option B) → Option B
o >>= f = option_and_then f o

-- the Ethernet type of an IPv4 packet
abbrev pub ipv4_type : ℕ
ipv4_type = 0x0800

-- the Ethernet type of a VLAN tag
abbrev pub tag_type : ℕ
tag_type = 0x8100

-- the type field at this place, where both its bytes are in the frame
abbrev pub type_at : List ℕ → ℕ → Option ℕ
type_at frame place =
    if nat_le (place + 2) (length frame) then Some (from_be_bytes w16 (slice_index frame place ∷ slice_index frame (place + 1) ∷ [])) else None

-- The place at which the IPv4 packet of an Ethernet frame begins: 14, or 18 after a VLAN tag. Of
-- several tags only the first is read.
unfoldable pub packet_place : List ℕ → Option ℕ
packet_place frame = do
  type ← type_at frame 12
  if type == tag_type then (do
    inner ← type_at frame 16
    if inner == ipv4_type then Some 18 else None) else (if type == ipv4_type then Some 14 else None)

-- the destination of the packet at this place: it has a header's 20 bytes, and its version is 4
abbrev pub destination_at : List ℕ → ℕ → Option ℕ
destination_at frame place =
    if nat_le (place + 20) (length frame)
    && (slice_index frame place / 16 == 4) then Some
    (from_be_bytes w32 (slice_index frame (place + 16) ∷ slice_index frame (place + 17) ∷ slice_index frame (place + 18) ∷ slice_index frame (place + 19)
    ∷ [])) else None

-- the IPv4 destination address of a frame, where it has one
abbrev pub destination_of : Link → List ℕ → Option ℕ
destination_of Ethernet frame = do
  place ← packet_place frame
  destination_at frame place
destination_of RawIp frame = destination_at frame 0
