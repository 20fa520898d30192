-- What the application processor answers to a firmware device.
use Rattle.std.proofs.Common.{Bool, List, None, Option, Some, ap, arith, cond, false, length, refl}
use Rattle.std.proofs.Common.{subst, sym, true, ℕ, ◌++◌, ◌+◌, ◌∙◌, ◌∷◌, ◌≡◌, ◌≤◌}
use Rattle.std.proofs.lemmas.Bool.Decides.{nat_tests}
use Rattle.std.specs.Prelude.{Err, Ok, drop, min, nat_lt, take, ◌==◌, ◌||◌}
use Rattle.byteorder.specs.Endian.{little_number}
use Rattle.gb_base.specs.declared.interface.Link.{Link}
use Rattle.gb_formats.specs.FirmwareRecords.{FirmwareAsk, FirmwareReply, read_firmware_ask}
use Rattle.gb_formats.specs.Images.{Images, fetch_step, find_step, finds, free_id, image_of}
use Rattle.gb_formats.specs.Images.{images_read, images_step, is_astray, lends, lent_bytes, replies}
use Rattle.gb_formats.specs.Images.{tag_spelled, with_loan}
use Rattle.gb_formats.specs.Records.{PayloadFault, le32, whole}
use Rattle.gb_formats.specs.Results.{Step, fault_result, invalid, most_payload, refuses, success}
use Rattle.gb_formats.specs.SvcRecords.{SvcAsk}
use Rattle.gb_machine.specs.Host.{Host, link_of}
use Rattle.gb_machine.specs.HostServing.{HostServed, host_refuses, host_serves, images_served}
use Rattle.gb_machine.specs.HostServing.{notified_by, served_on, serves_firmware, serves_gpio}
use Rattle.gb_machine.specs.HostServing.{serves_svc, serves_uart}
use Rattle.gb_machine.specs.Serving.{protocol_bad}
use Rattle.gb_invariants.proofs.Lists.{found-in}
use Rattle.gb_invariants.proofs.Outcomes.{same-number}
use Rattle.gb_laws.proofs.firmware.ImageFacts.{fetch-stays}
use Rattle.gb_laws.proofs.firmware.RecordsBack.{fetch-back}

-- by the images that are lent
abbrev pub served_images : ℕ → ℕ → List ℕ → Host → HostServed
served_images k kind payload h = images_served (images_step k kind payload h.images) h

-- On a connection of its protocol a request is served by them.
pub firmware-serves : (k kind : ℕ) (payload : List ℕ) (h : Host) (l : Link)
    → link_of k h ≡ Some l → l.protocol ≡ 0x17
    → host_serves k kind payload h ≡ served_images k kind payload h
firmware-serves k kind payload h l found protocol =
    ap (λ o. served_on o kind payload h) found
    ∙ ap (λ p. cond (p == 0x02) (serves_gpio l kind payload h)
    (cond (p == 0x04) (serves_uart l kind payload h)
    (cond (p == 0x17) (serves_firmware l kind payload h) (host_refuses protocol_bad h)))) protocol
    ∙ ap (λ j. served_images j kind payload h) number
  where
    number : l.connection ≡ k
    number = same-number l.connection k (found-in (λ (x : Link). x.connection == k) h.links l
        found).1

-- ---- FETCH

-- a fault is no success
pub fault-fails : (f : PayloadFault) → fault_result f ≡ success → ⊥
fault-fails PayloadFault.UnknownKind e = absurd cc
fault-fails (PayloadFault.Mismatch at) e = absurd cc

-- A FETCH that is answered with success is answered with bytes of an image.
pub record FetchedFrom (offset size : ℕ) (o : Option (List ℕ)) (payload : List ℕ) : Type 0 where
  pub image : List ℕ
  pub lent : o ≡ Some image
  pub inside : offset + size ≤ length image
  pub bytes : payload ≡ take size (drop offset image)

or-false : (a b : Bool) → (a || b) ≡ false → (a ≡ false) × (b ≡ false)
or-false false b e = (refl, e)
or-false true b e = absurd cc

pub fetched-from : (offset size : ℕ) (o : Option (List ℕ)) (x : Images)
    → (fetch_step offset size o x).served.result ≡ success
    → FetchedFrom offset size o (fetch_step offset size o x).served.payload
fetched-from offset size None x e = absurd cc
fetched-from offset size (Some bytes) x e = by (is_astray offset size bytes) refl e
  where
    answer : Bool → Step Images
    answer t = cond t (refuses x invalid) (replies x (FirmwareReply.Fetch (take size
        (drop offset bytes))))

    by : (t : Bool) → is_astray offset size bytes ≡ t → (answer t).served.result ≡ success
        → FetchedFrom offset size (Some bytes) (answer t).served.payload
    by true f e = absurd cc
    by false f e = record {
      image = bytes;
      lent = refl;
      inside = let over = (or-false (size == 0 || nat_lt most_payload size)
          (nat_lt (length bytes) (offset + size)) f).1 in grind (arith, nat_tests);
      bytes = refl;
    }

-- ---- whoever is asked

-- What is so of each way in which a request can be served is so of how it is served.
pub served-cases : (P : HostServed → Type 0) (k kind : ℕ) (payload : List ℕ) (h : Host)
    → P (serves_svc kind payload h) → ((l : Link) → P (serves_gpio l kind payload h))
    → ((l : Link) → P (serves_uart l kind payload h)) → P (served_images k kind payload h)
    → P (host_refuses protocol_bad h) → P (host_serves k kind payload h)
served-cases P k kind payload h svc gpio uart firmware other = by (link_of k h) refl
  where
    cases : (t : Bool) (x y : HostServed) → P x → P y → P (cond t x y)
    cases true x y a b = a
    cases false x y a b = b

    by : (o : Option Link) → link_of k h ≡ o → P (served_on o kind payload h)
    by None e = svc
    by (Some l) e =
        let number : l.connection ≡ k = same-number l.connection k
        (found-in (λ (x : Link). x.connection == k) h.links l e).1 in
        cases (l.protocol == 0x02) (serves_gpio l kind payload h)
        (cond (l.protocol == 0x04) (serves_uart l kind payload h)
        (cond (l.protocol == 0x17) (serves_firmware l kind payload h)
        (host_refuses protocol_bad h))) (gpio l)
        (cases (l.protocol == 0x04) (serves_uart l kind payload h)
        (cond (l.protocol == 0x17) (serves_firmware l kind payload h)
        (host_refuses protocol_bad h)) (uart l)
        (cases (l.protocol == 0x17) (serves_firmware l kind payload h) (host_refuses protocol_bad h)
        (subst (λ n. P (served_images n kind payload h)) (sym number) firmware) other))

-- a record that is too long or too short isn't the whole payload
whole-other : {A : Type 0} (size : ℕ) (payload : List ℕ) (made : A)
    → (length payload == size) ≡ false
    → whole size payload made ≡ Err (PayloadFault.Mismatch (min (length payload) (size + 1)))
whole-other size payload made e =
    ap (λ t. cond t (Ok made) (Err (PayloadFault.Mismatch (min (length payload) (size + 1))))) e

-- ---- FIND

-- FIND that is answered with success has an image, whose size it tells, and lends it.
pub record FindAnswered (k : ℕ) (tag : List ℕ) (x : Images) (r : HostServed) : Type 0 where
  pub id : ℕ
  pub image : List ℕ
  pub given : image_of tag x ≡ Some image
  pub free : free_id k x ≡ Some id
  pub payload : r.answer.payload ≡ id ∷ le32 (length image)
  pub after : r.host.images ≡ with_loan k id tag x

-- where an answer of success says something
abbrev IfDone : (HostServed → Type 0) → HostServed → Type 0
IfDone P r = r.answer.result ≡ success → P r

found-answered : (k : ℕ) (tag : List ℕ) (h : Host) → IfDone (FindAnswered k tag h.images)
    (images_served (find_step k (Some tag) h.images) h)
found-answered k tag h = by (image_of tag h.images) refl
  where
    lends-it : (bytes : List ℕ) → image_of tag h.images ≡ Some bytes
        → (o : Option ℕ) → free_id k h.images ≡ o
        → IfDone (FindAnswered k tag h.images)
        (images_served (lends k tag (length bytes) o h.images) h)
    lends-it bytes e None f done = absurd cc
    lends-it bytes e (Some id) f done = record {
      id = id;
      image = bytes;
      given = e;
      free = f;
      payload = refl;
      after = refl;
    }

    by : (o : Option (List ℕ)) → image_of tag h.images ≡ o → IfDone (FindAnswered k tag h.images)
        (images_served (finds k tag o h.images) h)
    by None e = λ done. absurd cc
    by (Some bytes) e = lends-it bytes e (free_id k h.images) refl

find-done : (k : ℕ) (tag : List ℕ) (h : Host) (payload : List ℕ) → tag_spelled payload ≡ Some tag
    → IfDone (FindAnswered k tag h.images) (served_images k 0x01 payload h)
find-done k tag h payload spells = by (length payload == 10)
  where
    by : (t : Bool) → IfDone (FindAnswered k tag h.images) (images_served (images_read k
        (cond t (Ok (FirmwareAsk.Find payload)) (Err (PayloadFault.Mismatch
        (min (length payload) (10 + 1))))) h.images) h)
    by true = subst (λ o. IfDone (FindAnswered k tag h.images)
        (images_served (find_step k o h.images) h)) (sym spells) (found-answered k tag h)
    by false = λ done. absurd cc

pub find-answered : (k : ℕ) (tag : List ℕ) (h : Host) (payload : List ℕ) → length payload ≡ 10
    → tag_spelled payload ≡ Some tag
    → (host_serves k 0x01 payload h).answer.result ≡ success
    → FindAnswered k tag h.images (host_serves k 0x01 payload h)
find-answered k tag h payload ten spells =
    served-cases (IfDone (FindAnswered k tag h.images)) k 0x01 payload h svc
    (λ l done. absurd cc) (λ l done. absurd cc) (find-done k tag h payload spells)
    (λ done. absurd cc)
  where
    svc : IfDone (FindAnswered k tag h.images) (serves_svc 0x01 payload h)
    svc = subst (λ r. IfDone (FindAnswered k tag h.images) (notified_by r h))
        (sym (whole-other 2 payload (SvcAsk.ProtocolVersion (little_number 1 payload)
        (little_number 1 (drop 1 payload))) (ap (λ n. n == 2) ten))) (λ done. absurd cc)

-- ---- FETCH

-- the bytes of a FETCH
abbrev pub fetch_bytes : ℕ → ℕ → ℕ → List ℕ
fetch_bytes id offset size = id ∷ le32 offset ++ le32 size

-- a FETCH that is answered with success has bytes of the image that is lent
abbrev pub FetchAnswered : ℕ → ℕ → ℕ → ℕ → Images → HostServed → Type 0
FetchAnswered k id offset size x r =
    FetchedFrom offset size (lent_bytes k id x) r.answer.payload

module _ (k id offset size : ℕ) (low : offset ≤ 4294967295) (short : size ≤ 4294967295)
    (h : Host) where
  back : read_firmware_ask 0x02 (fetch_bytes id offset size)
      ≡ Ok (FirmwareAsk.Fetch id offset size)
  back = fetch-back id offset size low short

  pub fetch-answered : (host_serves k 0x02 (fetch_bytes id offset size) h).answer.result ≡ success
      → FetchAnswered k id offset size h.images
      (host_serves k 0x02 (fetch_bytes id offset size) h)
  fetch-answered = served-cases (IfDone (FetchAnswered k id offset size h.images)) k 0x02
      (fetch_bytes id offset size) h (λ done. absurd cc) (λ l done. absurd cc)
      (λ l done. absurd cc)
      (subst (λ r. IfDone (FetchAnswered k id offset size h.images)
      (images_served (images_read k r h.images) h)) (sym back)
      (λ done. fetched-from offset size (lent_bytes k id h.images) h.images done))
      (λ done. absurd cc)

  -- it changes nothing
  pub fetch-images : (host_serves k 0x02 (fetch_bytes id offset size) h).host.images ≡ h.images
  fetch-images = served-cases (λ r. r.host.images ≡ h.images) k 0x02
      (fetch_bytes id offset size) h refl (λ l. refl) (λ l. refl)
      (subst (λ r. (images_read k r h.images).after ≡ h.images) (sym back)
      (fetch-stays offset size (lent_bytes k id h.images) h.images)) refl
