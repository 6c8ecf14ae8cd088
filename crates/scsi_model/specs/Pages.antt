-- The data that describe a device (SPC-4, SBC-3): standard INQUIRY data, vital product data, mode data, capacities, the list of
-- logical units. Numbers stand with the highest byte first.
use Rattle.std.specs.Prelude.{ℕ, ◌+◌, ◌-◌, Bool, List, [], ◌∷◌, ◌++◌, length, replicate, ◌==◌, nat_lt, Option, Some, None, if◌then◌else◌, codes}
use Rattle.byteorder.specs.Endian.{big_bytes}

-- ==== INQUIRY

-- T10 vendor identification
abbrev pub vendor : List ℕ
vendor = codes "RTLTCMU "

-- a direct access block device that claims SPC-3, response data format 2; 31 bytes follow byte 4
unfoldable pub standard_inquiry : List ℕ
standard_inquiry = (0x00 ∷ 0x00 ∷ 0x05 ∷ 0x02 ∷ 0x1f ∷ 0 ∷ 0 ∷ 0 ∷ []) ++ vendor ++ codes "ring disk       " ++ codes "0001"

-- a page of vital product data: the peripheral device type, the page, how many bytes follow in two bytes, and these
abbrev pub vital_page : ℕ → List ℕ → List ℕ
vital_page page rest = (0x00 ∷ page ∷ []) ++ big_bytes 2 (length rest) ++ rest

abbrev pub supported_pages : List ℕ
supported_pages = 0x00 ∷ 0x80 ∷ 0x83 ∷ 0xb0 ∷ []

-- one designator in ASCII, of the type T10 vendor ID: the vendor and the device's name
abbrev pub designator : List ℕ → List ℕ
designator name = (0x02 ∷ 0x01 ∷ 0x00 ∷ (8 + length name) ∷ []) ++ vendor ++ name

-- WSNZ; maximum compare and write length; in bytes 20 to 27 of the page the maximum unmap LBA count and block descriptor count,
-- and in bytes 36 to 43 the maximum write same length
abbrev pub block_limits : List ℕ
block_limits =
    (0x01 ∷ 0xff ∷ []) ++ replicate 14 0 ++ big_bytes 4 32768 ++ big_bytes 4 256 ++ replicate 8 0 ++ big_bytes 8 2048 ++ replicate 20 0

-- the page of this code: of the four that there are
unfoldable pub vpd_page : List ℕ → ℕ → List ℕ
vpd_page name page =
    if page == 0x00 then vital_page 0x00 supported_pages
    else (if page == 0x80 then vital_page 0x80 name
    else (if page == 0x83 then vital_page 0x83 (designator name)
    else vital_page 0xb0 block_limits))

abbrev pub inquiry_data : List ℕ → Option ℕ → List ℕ
inquiry_data name None = standard_inquiry
inquiry_data name (Some page) = vpd_page name page

-- ==== MODE SENSE(6)

abbrev pub caching_page : List ℕ
caching_page = (0x08 ∷ 0x12 ∷ []) ++ replicate 18 0

abbrev pub control_page : List ℕ
control_page = (0x0a ∷ 0x0a ∷ []) ++ replicate 10 0

-- the page of this code, or both
abbrev pub mode_pages : ℕ → List ℕ
mode_pages page = if page == 0x08 then caching_page else (if page == 0x0a then control_page else caching_page ++ control_page)

-- behind a header: how many bytes follow the first, the medium type, WP, and no block descriptor
unfoldable pub mode_sense : ℕ → Bool → List ℕ
mode_sense page protected =
    ((3 + length (mode_pages page)) ∷ 0x00 ∷ (if protected then 0x80 else 0x00) ∷ 0x00 ∷ []) ++ mode_pages page

-- ==== READ CAPACITY, REPORT LUNS, REQUEST SENSE

-- the last logical block address, FFFFFFFFh where 32 bits do not hold it, and the logical block length
unfoldable pub capacity10 : ℕ → List ℕ
capacity10 blocks = big_bytes 4 (if nat_lt 4294967296 blocks then 0xffffffff else blocks - 1) ++ big_bytes 4 512

-- the same in 64 bits; LBPME and LBPRZ are 0
unfoldable pub capacity16 : ℕ → List ℕ
capacity16 blocks = big_bytes 8 (blocks - 1) ++ big_bytes 4 512 ++ replicate 20 0

-- logical unit 0, or none where only well known logical units are asked for
unfoldable pub report_luns : ℕ → List ℕ
report_luns select = if select == 1 then replicate 8 0 else big_bytes 4 8 ++ replicate 12 0
