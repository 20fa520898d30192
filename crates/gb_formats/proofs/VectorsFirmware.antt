-- Firmware Download: records, and what the images answer.
use Rattle.std.proofs.Common.{◌≡◌, ℕ, List, [], ◌∷◌, ◌++◌, refl}
use Rattle.std.specs.Prelude.{Err, None, Ok, Some, codes, map, replicate, take}
use Rattle.gb_base.specs.declared.served.Served.{Served}
use Rattle.gb_formats.specs.FirmwareRecords.{FirmwareAsk, FirmwareReply, firmware_ask_kind}
use Rattle.gb_formats.specs.FirmwareRecords.{firmware_ask_payload, firmware_reply_kind}
use Rattle.gb_formats.specs.FirmwareRecords.{firmware_reply_payload, read_firmware_ask}
use Rattle.gb_formats.specs.FirmwareRecords.{read_firmware_reply}
use Rattle.gb_formats.specs.Images.{Images, forgotten, image_of, images_step, no_images, with_image}
use Rattle.gb_formats.specs.Lists.{first_free}
use Rattle.gb_formats.specs.Records.{PayloadFault, le32}
use Rattle.gb_formats.specs.Results.{Step, answer_of, refusal_of}
use Rattle.gb_formats.proofs.VectorsDevices.{Request}
use Rattle.gb_formats.proofs.VectorsSource.{counted}

-- ---- records

-- the field of the tag `boot`
abbrev pub boot_field : List ℕ
boot_field = codes "boot" ++ replicate 6 0

-- types, payloads and records of the Firmware Download protocol
abbrev pub firmware_ask_rows : List (ℕ × List ℕ × FirmwareAsk)
firmware_ask_rows =
    (0x01, boot_field, FirmwareAsk.Find boot_field)
    ∷ (0x01, replicate 10 255, FirmwareAsk.Find (replicate 10 255))
    ∷ (0x02, 7 ∷ 0 ∷ 2 ∷ 0 ∷ 1 ∷ 0xf8 ∷ 7 ∷ 0 ∷ 2 ∷ [], FirmwareAsk.Fetch 7 0x01000200 0x020007f8)
    ∷ (0x03, 255 ∷ [], FirmwareAsk.Release 255)
    ∷ []

pub firmware_ask_rows-read : map (λ row. read_firmware_ask row.0 row.1) firmware_ask_rows
    ≡ map (λ row. Ok row.2) firmware_ask_rows
firmware_ask_rows-read = refl

pub firmware_ask_rows-kind : map (λ row. firmware_ask_kind row.2) firmware_ask_rows
    ≡ map (λ row. row.0) firmware_ask_rows
firmware_ask_rows-kind = refl

pub firmware_ask_rows-payload : map (λ row. firmware_ask_payload row.2) firmware_ask_rows
    ≡ map (λ row. row.1) firmware_ask_rows
firmware_ask_rows-payload = refl

-- payloads that are no record of their type, and the place where they part
abbrev pub firmware_ask_faults : List (ℕ × List ℕ × PayloadFault)
firmware_ask_faults =
    (0x00, [], PayloadFault.UnknownKind)
    ∷ (0x04, boot_field, PayloadFault.UnknownKind)
    ∷ (0x01, [], PayloadFault.Mismatch 0)
    ∷ (0x01, take 9 boot_field, PayloadFault.Mismatch 9)
    ∷ (0x01, boot_field ++ 0 ∷ [], PayloadFault.Mismatch 11)
    ∷ (0x02, [], PayloadFault.Mismatch 0)
    ∷ (0x02, replicate 8 0, PayloadFault.Mismatch 8)
    ∷ (0x02, replicate 12 0, PayloadFault.Mismatch 10)
    ∷ (0x03, [], PayloadFault.Mismatch 0)
    ∷ (0x03, 1 ∷ 1 ∷ [], PayloadFault.Mismatch 2)
    ∷ []

pub firmware_ask_faults-read : map (λ row. read_firmware_ask row.0 row.1) firmware_ask_faults
    ≡ map (λ row. Err row.2) firmware_ask_faults
firmware_ask_faults-read = refl

-- the same of responses
abbrev pub firmware_reply_rows : List (ℕ × List ℕ × FirmwareReply)
firmware_reply_rows =
    (0x01, 255 ∷ 3 ∷ 2 ∷ 1 ∷ 0 ∷ [], FirmwareReply.Find 255 0x00010203)
    ∷ (0x02, [], FirmwareReply.Fetch [])
    ∷ (0x02, 0 ∷ 1 ∷ 2 ∷ [], FirmwareReply.Fetch (0 ∷ 1 ∷ 2 ∷ []))
    ∷ (0x03, [], FirmwareReply.Release)
    ∷ []

pub firmware_reply_rows-read : map (λ row. read_firmware_reply row.0 row.1) firmware_reply_rows
    ≡ map (λ row. Ok row.2) firmware_reply_rows
firmware_reply_rows-read = refl

pub firmware_reply_rows-kind : map (λ row. firmware_reply_kind row.2) firmware_reply_rows
    ≡ map (λ row. row.0) firmware_reply_rows
firmware_reply_rows-kind = refl

pub firmware_reply_rows-payload : map (λ row. firmware_reply_payload row.2) firmware_reply_rows
    ≡ map (λ row. row.1) firmware_reply_rows
firmware_reply_rows-payload = refl

-- payloads that are no response
abbrev pub firmware_reply_faults : List (ℕ × List ℕ × PayloadFault)
firmware_reply_faults =
    (0x00, [], PayloadFault.UnknownKind)
    ∷ (0x04, [], PayloadFault.UnknownKind)
    ∷ (0x01, [], PayloadFault.Mismatch 0)
    ∷ (0x01, replicate 4 0, PayloadFault.Mismatch 4)
    ∷ (0x01, replicate 6 0, PayloadFault.Mismatch 6)
    ∷ (0x03, 0 ∷ [], PayloadFault.Mismatch 1)
    ∷ []

pub firmware_reply_faults-read : map (λ row. read_firmware_reply row.0 row.1) firmware_reply_faults
    ≡ map (λ row. Err row.2) firmware_reply_faults
firmware_reply_faults-read = refl

-- ---- images

-- the images' step at a request: its connection, type and payload
abbrev pub lent_by : Images → Request → Step Images
lent_by x r = images_step r.0 r.1 r.2 x

-- what the images answer to requests one after the other
abbrev pub lent_answers : Images → List Request → List Served
lent_answers x [] = []
lent_answers x (r ∷ rs) = (lent_by x r).served ∷ lent_answers (lent_by x r).after rs

-- the image of a tag, alone
abbrev pub alone : List ℕ → List ℕ → Images
alone tag bytes = with_image tag bytes no_images

-- an image of three bytes, and one of none
abbrev pub two_images : Images
two_images = with_image (codes "empty") [] (alone (codes "boot") (0 ∷ 1 ∷ 2 ∷ []))

-- FETCH of an id, with offset and size
abbrev pub fetch : ℕ → ℕ → ℕ → List ℕ
fetch id offset size = id ∷ le32 offset ++ le32 size

-- FIND: each connection has ids of its own, and a tag ends at the first zero; refusals
pub finds-answered : lent_answers two_images
    ((2, 0x01, boot_field)
    ∷ (3, 0x01, codes "empty" ++ replicate 5 0)
    ∷ (2, 0x01, codes "boot" ++ 0 ∷ 1 ∷ 2 ∷ 3 ∷ 4 ∷ 5 ∷ [])
    ∷ (2, 0x01, codes "abcdefghij")
    ∷ (2, 0x01, codes "bootboot" ++ 0 ∷ 0 ∷ [])
    ∷ (2, 0x01, replicate 10 0)
    ∷ (2, 0x01, codes "boot")
    ∷ (2, 0x00, boot_field)
    ∷ [])
    ≡ answer_of (1 ∷ 3 ∷ 0 ∷ 0 ∷ 0 ∷ [])
    ∷ answer_of (1 ∷ 0 ∷ 0 ∷ 0 ∷ 0 ∷ [])
    ∷ answer_of (2 ∷ 3 ∷ 0 ∷ 0 ∷ 0 ∷ [])
    ∷ refusal_of 0x06
    ∷ refusal_of 0x08
    ∷ refusal_of 0x08
    ∷ refusal_of 0x06
    ∷ refusal_of 0x04
    ∷ []
unfolding first_free
finds-answered = refl

-- FETCH: the whole, the last byte, an id not in use or of another connection, no byte, past the end
pub fetches-answered : lent_answers two_images
    ((2, 0x01, boot_field)
    ∷ (2, 0x02, fetch 1 0 3)
    ∷ (2, 0x02, fetch 1 2 1)
    ∷ (2, 0x02, fetch 2 0 0)
    ∷ (3, 0x02, fetch 1 0 1)
    ∷ (2, 0x02, fetch 1 0 0)
    ∷ (2, 0x02, fetch 1 0 4)
    ∷ (2, 0x02, fetch 1 3 1)
    ∷ (2, 0x02, fetch 1 4294967295 2)
    ∷ (2, 0x02, [])
    ∷ [])
    ≡ answer_of (1 ∷ 3 ∷ 0 ∷ 0 ∷ 0 ∷ [])
    ∷ answer_of (0 ∷ 1 ∷ 2 ∷ [])
    ∷ answer_of (2 ∷ [])
    ∷ refusal_of 0x08
    ∷ refusal_of 0x08
    ∷ refusal_of 0x06
    ∷ refusal_of 0x06
    ∷ refusal_of 0x06
    ∷ refusal_of 0x06
    ∷ refusal_of 0x06
    ∷ []
unfolding first_free
fetches-answered = refl

-- 2,040 bytes are the most
pub longest-fetch : lent_answers (alone (codes "boot") (replicate 2041 7))
    ((2, 0x01, boot_field) ∷ (2, 0x02, fetch 1 1 2040) ∷ (2, 0x02, fetch 1 0 2041) ∷ [])
    ≡ answer_of (1 ∷ 0xf9 ∷ 7 ∷ 0 ∷ 0 ∷ []) ∷ answer_of (replicate 2040 7) ∷ refusal_of 0x06 ∷ []
unfolding first_free
longest-fetch = refl

-- RELEASE: an id is free after it, and the least one that is free is the next
pub releases-answered : lent_answers two_images
    ((2, 0x01, boot_field) ∷ (2, 0x01, boot_field) ∷ (3, 0x03, 1 ∷ []) ∷ (2, 0x03, 1 ∷ [])
    ∷ (2, 0x03, 1 ∷ []) ∷ (2, 0x02, fetch 1 0 3) ∷ (2, 0x02, fetch 2 0 3) ∷ (2, 0x03, [])
    ∷ (2, 0x01, boot_field) ∷ [])
    ≡ answer_of (1 ∷ 3 ∷ 0 ∷ 0 ∷ 0 ∷ []) ∷ answer_of (2 ∷ 3 ∷ 0 ∷ 0 ∷ 0 ∷ []) ∷ refusal_of 0x08
    ∷ answer_of [] ∷ refusal_of 0x08 ∷ refusal_of 0x08 ∷ answer_of (0 ∷ 1 ∷ 2 ∷ [])
    ∷ refusal_of 0x06 ∷ answer_of (1 ∷ 3 ∷ 0 ∷ 0 ∷ 0 ∷ []) ∷ []
unfolding first_free
releases-answered = refl

-- an image of no bytes, lent under each id of a connection
abbrev pub all_lent : ℕ → Images
all_lent k =
    record (alone (codes "boot") []) {
      loans = map (λ id. record { connection = k; id = id; tag = codes "boot" }) (counted 255 1);
    }

-- with all 255 ids in use a tag that has an image is asked for again; RELEASE of one gives it
pub all-lent : lent_answers (all_lent 2)
    ((2, 0x01, boot_field) ∷ (2, 0x01, replicate 10 0) ∷ (3, 0x01, boot_field)
    ∷ (2, 0x03, 255 ∷ []) ∷ (2, 0x01, boot_field) ∷ [])
    ≡ refusal_of 0x07 ∷ refusal_of 0x08 ∷ answer_of (1 ∷ 0 ∷ 0 ∷ 0 ∷ 0 ∷ [])
    ∷ answer_of [] ∷ answer_of (255 ∷ 0 ∷ 0 ∷ 0 ∷ 0 ∷ []) ∷ []
unfolding first_free
all-lent = refl

-- a connection's ids are free, and no other's
pub ids-forgotten : map (λ k. forgotten k (all_lent 2)) (2 ∷ 3 ∷ [])
    ≡ alone (codes "boot") [] ∷ all_lent 2 ∷ []
ids-forgotten = refl

pub images-found : map (λ tag. image_of tag two_images)
    (codes "boot" ∷ codes "empty" ∷ codes "boo" ∷ [] ∷ [])
    ≡ Some (0 ∷ 1 ∷ 2 ∷ []) ∷ Some [] ∷ None ∷ None ∷ []
images-found = refl
