-- The firmware images of the application processor, and the ids under which it lends them.
use Rattle.std.specs.Prelude.{ℕ, ◌+◌, ◌==◌, nat_lt, Bool, ◌&&◌, ◌||◌, if◌then◌else◌, Option, Some}
use Rattle.std.specs.Prelude.{None, option_map, option_and_then, Result, Ok, Err, List, [], ◌∷◌}
use Rattle.std.specs.Prelude.{◌++◌, length, take, drop, find}
use Rattle.std.specs.List.{list_any}
use Rattle.std.specs.Str.{bytes_eq}
use Rattle.gb_formats.specs.FirmwareRecords.{FirmwareAsk, FirmwareReply, firmware_reply_payload}
use Rattle.gb_formats.specs.FirmwareRecords.{read_firmware_ask}
use Rattle.gb_formats.specs.Lists.{first_free, without}
use Rattle.gb_formats.specs.Records.{PayloadFault}
use Rattle.gb_formats.specs.Results.{Step, tells, refuses, fault_result, invalid, most_payload}
use Rattle.gb_formats.specs.Results.{nonexistent, retry}

-- an image under its tag
pub record Image : Type 0 where
  pub tag : List ℕ
  pub bytes : List ℕ

-- an id of a connection, under which the image of a tag is lent there
pub record Loan : Type 0 where
  pub connection : ℕ
  pub id : ℕ
  pub tag : List ℕ

-- The images, each with a tag of its own, and the ids in use.
pub record Images : Type 0 where
  pub given : List Image
  pub loans : List Loan

-- none was given
abbrev pub no_images : Images
no_images = record { given = []; loans = [] }

-- ---- images

-- an image has this tag
abbrev pub has_tag : List ℕ → Image → Bool
has_tag tag image = bytes_eq image.tag tag

-- The bytes of the image that was given under a tag.
abbrev pub image_of : List ℕ → Images → Option (List ℕ)
image_of tag x = option_map (λ i. i.bytes) (find (has_tag tag) x.given)

-- An image is given.
abbrev pub with_image : List ℕ → List ℕ → Images → Images
with_image tag bytes x =
    record x { given = x.given ++ record { tag = tag; bytes = bytes } ∷ [] }

-- ---- ids

-- an id of a connection
abbrev pub is_loan : ℕ → ℕ → Loan → Bool
is_loan k id l = l.connection == k && l.id == id

-- the tag of the image that is lent under an id of a connection
abbrev pub lent_tag : ℕ → ℕ → Images → Option (List ℕ)
lent_tag k id x = option_map (λ l. l.tag) (find (is_loan k id) x.loans)

-- The bytes of the image that is lent under an id of a connection.
abbrev pub lent_bytes : ℕ → ℕ → Images → Option (List ℕ)
lent_bytes k id x = option_and_then (λ tag. image_of tag x) (lent_tag k id x)

-- the least id of a connection from 1 to 255 that isn't in use
abbrev pub free_id : ℕ → Images → Option ℕ
free_id k x = first_free (λ id. list_any (is_loan k id) x.loans) 255 1

-- an image is lent under an id of a connection
abbrev pub with_loan : ℕ → ℕ → List ℕ → Images → Images
with_loan k id tag x =
    record x { loans = x.loans ++ record { connection = k; id = id; tag = tag } ∷ [] }

-- an id of a connection is free
abbrev pub without_loan : ℕ → ℕ → Images → Images
without_loan k id x = record x { loans = without (is_loan k id) x.loans }

-- All ids of a connection are free.
abbrev pub forgotten : ℕ → Images → Images
forgotten k x = record x { loans = without (λ l. l.connection == k) x.loans }

-- ---- requests

-- the tag that the bytes of the field spell: those before the first zero, if there is one
abbrev pub tag_spelled : List ℕ → Option (List ℕ)
tag_spelled [] = None
tag_spelled (b ∷ bs) =
    let later = option_map (λ tag. b ∷ tag) (tag_spelled bs) in
    if b == 0 then Some [] else later

-- it stays, and answers a response
abbrev pub replies : Images → FirmwareReply → Step Images
replies x reply = tells x (firmware_reply_payload reply)

-- an image of this size is lent under the least id that is free
abbrev pub lends : ℕ → List ℕ → ℕ → Option ℕ → Images → Step Images
lends k tag size None x = refuses x retry
lends k tag size (Some id) x =
    replies (with_loan k id tag x) (FirmwareReply.Find id size)

-- FIND of a tag, by the image that it has
abbrev pub finds : ℕ → List ℕ → Option (List ℕ) → Images → Step Images
finds k tag None x = refuses x nonexistent
finds k tag (Some bytes) x = lends k tag (length bytes) (free_id k x) x

-- FIND, by the tag that its field spells
abbrev pub find_step : ℕ → Option (List ℕ) → Images → Step Images
find_step k None x = refuses x invalid
find_step k (Some tag) x = finds k tag (image_of tag x) x

-- a FETCH that can't be answered: of nothing, of more than a message has, or past the image's end
abbrev pub is_astray : ℕ → ℕ → List ℕ → Bool
is_astray offset size bytes =
    size == 0 || nat_lt most_payload size || nat_lt (length bytes) (offset + size)

-- FETCH, by the image that is lent under its id
abbrev pub fetch_step : ℕ → ℕ → Option (List ℕ) → Images → Step Images
fetch_step offset size None x = refuses x nonexistent
fetch_step offset size (Some bytes) x =
    if is_astray offset size bytes then refuses x invalid
    else replies x (FirmwareReply.Fetch (take size (drop offset bytes)))

-- RELEASE, by whether its id is in use
abbrev pub release_step : ℕ → ℕ → Bool → Images → Step Images
release_step k id lent x =
    if lent then replies (without_loan k id x) FirmwareReply.Release else refuses x nonexistent

-- what each request on connection k does
abbrev pub images_asked : ℕ → FirmwareAsk → Images → Step Images
images_asked k (FirmwareAsk.Find tag) x = find_step k (tag_spelled tag) x
images_asked k (FirmwareAsk.Fetch id offset size) x =
    fetch_step offset size (lent_bytes k id x) x
images_asked k (FirmwareAsk.Release id) x =
    release_step k id (list_any (is_loan k id) x.loans) x

-- a request by its payload
abbrev pub images_read : ℕ → Result FirmwareAsk PayloadFault → Images → Step Images
images_read k (Ok ask) x = images_asked k ask x
images_read k (Err fault) x = refuses x (fault_result fault)

-- What the application processor answers to a request on connection k.
abbrev pub images_step : ℕ → ℕ → List ℕ → Images → Step Images
images_step k kind payload x = images_read k (read_firmware_ask kind payload) x
