-- What the application processor answers firmware devices fits into a message, and where it refuses
-- its ids in use stay.
use Rattle.std.proofs.Common.{◌≡◌, ◌≤◌, ◌+◌, ◌==◌, ◌||◌, ℕ, Bool, true, false, cond, Option, Some}
use Rattle.std.proofs.Common.{None, Result, Ok, Err, List, length, take, drop, length-take}
use Rattle.std.proofs.Common.{refl, arith}
use Rattle.std.specs.Prelude.{nat_lt}
use Rattle.std.specs.List.{list_any}
use Rattle.std.proofs.lemmas.Bool.Decides.{nat_tests}
use Rattle.gb_formats.specs.FirmwareRecords.{FirmwareAsk, FirmwareReply, read_firmware_ask}
use Rattle.gb_formats.specs.Images.{Images, fetch_step, find_step, finds, free_id, image_of}
use Rattle.gb_formats.specs.Images.{images_asked, images_read, images_step, is_astray, is_loan}
use Rattle.gb_formats.specs.Images.{lends, lent_bytes, release_step, replies, tag_spelled}
use Rattle.gb_formats.specs.Records.{PayloadFault}
use Rattle.gb_formats.specs.Results.{Step, invalid, most_payload, nonexistent, refuses, success}

-- The images are as before where the answer isn't success, and it fits into a message.
pub record IsLent (x : Images) (t : Step Images) : Type 0 where
  pub keeps : (t.served.result == success) ≡ false → t.after ≡ x
  pub fits : length t.served.payload ≤ most_payload

refused_lent : (x : Images) (code : ℕ) → IsLent x (refuses x code)
refused_lent x code = record { keeps = λ e. refl; fits = omega arith }

lends_lent : (k : ℕ) (tag : List ℕ) (size : ℕ) (o : Option ℕ) (x : Images)
    → IsLent x (lends k tag size o x)
lends_lent k tag size None x = record { keeps = λ e. refl; fits = omega arith }
lends_lent k tag size (Some id) x =
    record { keeps = λ e. absurd (let f : true ≡ false = e in cc); fits = omega arith }

finds_lent : (k : ℕ) (tag : List ℕ) (o : Option (List ℕ)) (x : Images)
    → IsLent x (finds k tag o x)
finds_lent k tag None x = refused_lent x nonexistent
finds_lent k tag (Some bytes) x = lends_lent k tag (length bytes) (free_id k x) x

find_lent : (k : ℕ) (o : Option (List ℕ)) (x : Images) → IsLent x (find_step k o x)
find_lent k None x = refused_lent x invalid
find_lent k (Some tag) x = finds_lent k tag (image_of tag x) x

-- the bytes that are sent are not more than were asked for
piece_fits : (offset size : ℕ) (bytes : List ℕ) → is_astray offset size bytes ≡ false
    → length (take size (drop offset bytes)) ≤ most_payload
piece_fits offset size bytes whole =
    by (size == 0) (nat_lt most_payload size) (nat_lt (length bytes) (offset + size)) refl whole
  where
    by : (a b c : Bool) → nat_lt most_payload size ≡ b → (a || b || c) ≡ false
        → length (take size (drop offset bytes)) ≤ most_payload
    by true b c e f = absurd (let g : true ≡ false = f in cc)
    by false true c e f = absurd (let g : true ≡ false = f in cc)
    by false false c e f =
        let taken = length-take size (drop offset bytes) in grind (arith, nat_tests, taken, e)

fetch_lent : (offset size : ℕ) (o : Option (List ℕ)) (x : Images)
    → IsLent x (fetch_step offset size o x)
fetch_lent offset size None x = refused_lent x nonexistent
fetch_lent offset size (Some bytes) x = by (is_astray offset size bytes) refl
  where
    by : (b : Bool) → is_astray offset size bytes ≡ b
        → IsLent x (cond b (refuses x invalid)
        (replies x (FirmwareReply.Fetch (take size (drop offset bytes)))))
    by true e = refused_lent x invalid
    by false e = record { keeps = λ f. refl; fits = piece_fits offset size bytes e }

release_lent : (k id : ℕ) (lent : Bool) (x : Images) → IsLent x (release_step k id lent x)
release_lent k id true x =
    record { keeps = λ e. absurd (let f : true ≡ false = e in cc); fits = omega arith }
release_lent k id false x = refused_lent x nonexistent

asked_lent : (k : ℕ) (ask : FirmwareAsk) (x : Images) → IsLent x (images_asked k ask x)
asked_lent k (FirmwareAsk.Find tag) x = find_lent k (tag_spelled tag) x
asked_lent k (FirmwareAsk.Fetch id offset size) x =
    fetch_lent offset size (lent_bytes k id x) x
asked_lent k (FirmwareAsk.Release id) x =
    release_lent k id (list_any (is_loan k id) x.loans) x

read_lent : (k : ℕ) (r : Result FirmwareAsk PayloadFault) (x : Images)
    → IsLent x (images_read k r x)
read_lent k (Ok ask) x = asked_lent k ask x
read_lent k (Err fault) x = refused_lent x _

-- So it is with each answer.
pub images_lent : (k kind : ℕ) (payload : List ℕ) (x : Images)
    → IsLent x (images_step k kind payload x)
images_lent k kind payload x = read_lent k (read_firmware_ask kind payload) x
