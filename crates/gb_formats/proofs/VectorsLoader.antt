-- The loaders of firmware devices: their downloads of images, failures, and those of a module.
use Rattle.std.proofs.Common.{◌≡◌, ℕ, zero, suc, List, [], ◌∷◌, ◌++◌, refl}
use Rattle.std.specs.Prelude.{None, Option, Some, codes, length, map, option_map, replicate, take}
use Rattle.gb_base.specs.declared.download.Next.{Next}
use Rattle.gb_base.specs.declared.download.Next.TheVariants as next
use Rattle.gb_base.specs.declared.event.Kind.TheVariants as kind
use Rattle.gb_base.specs.declared.outcome.Outcome.{Outcome}
use Rattle.gb_base.specs.declared.outcome.Outcome.TheVariants as outcome
use Rattle.gb_formats.specs.Images.{Image, Images, images_step, no_images}
use Rattle.gb_formats.specs.Lists.{first_free}
use Rattle.gb_formats.specs.Loader.{Awaits, Loaded, Loader, find_ask, first_loader, loader_begun}
use Rattle.gb_formats.specs.Loader.{loader_ended}
use Rattle.gb_formats.specs.Module.{Module}
use Rattle.gb_formats.specs.ModuleLoads.{ModuleLoaded, kept_at, loader_at, module_ended}
use Rattle.gb_formats.specs.ModuleLoads.{module_fail, module_load, tag_at}
use Rattle.gb_formats.specs.Results.{Step, own_ask, refusal_of}
use Rattle.gb_formats.proofs.VectorsDevices.{after_all, answers_of, connected}
use Rattle.gb_formats.proofs.VectorsFirmware.{alone, boot_field, fetch}

-- ---- a loader and the images

-- a loader, the images, and what follows
pub record Turn : Type 0 where
  pub loader : Loader
  pub images : Images
  pub follows : Next

-- what follows the answer of a request
abbrev pub answered_turn : Turn → Option Loaded → Images → Turn
answered_turn t None x = t
answered_turn t (Some loaded) x =
    record { loader = loaded.after; images = x; follows = loaded.next }

-- the images answer the loader's request with this step
abbrev pub turn_by : Turn → Step Images → Turn
turn_by t step =
    answered_turn t
    (loader_ended (outcome.Answered step.served.result step.served.payload) t.loader) step.after

-- the next turn: the loader's request, and its answer
abbrev pub turn_of : Turn → Next → Turn
turn_of t (next.Ask own) = turn_by t (images_step 2 own.kind own.payload t.images)
turn_of t _ = t

-- the turn after so many
abbrev pub turned : ℕ → Turn → Turn
turned zero t = t
turned (suc n) t = turned n (turn_of t t.follows)

-- what follows in each of so many turns
abbrev pub turns : ℕ → Turn → List Next
turns zero t = []
turns (suc n) t = t.follows ∷ turns n (turn_of t t.follows)

-- a download of `boot` begins
abbrev pub begun : Images → Turn
begun x = record {
  loader = loader_begun (codes "boot") first_loader;
  images = x;
  follows = next.Ask (find_ask (codes "boot"));
}

-- so many bytes, which differ from one piece to the next
abbrev pub pieces : ℕ → List ℕ
pieces size =
    take size (replicate 512 1 ++ replicate 512 2 ++ replicate 512 3 ++ replicate 512 4)

-- a download of so many bytes begins
abbrev pub loads : ℕ → Turn
loads size = begun (alone (codes "boot") (pieces size))

-- FIND, FETCH of a piece, RELEASE, and the end
abbrev pub asks_find : Next
asks_find = next.Ask (own_ask 0x01 boot_field)

abbrev pub asks_fetch : ℕ → ℕ → Next
asks_fetch offset size = next.Ask (own_ask 0x02 (fetch 1 offset size))

abbrev pub asks_release : Next
asks_release = next.Ask (own_ask 0x03 (1 ∷ []))

abbrev pub is_loaded : ℕ → Next
is_loaded size = next.Done (codes "boot") size

-- images of so many bytes, and what follows in their downloads
abbrev pub load_rows : List (ℕ × List Next)
load_rows =
    (0, asks_find ∷ asks_release ∷ is_loaded 0 ∷ [])
    ∷ (1, asks_find ∷ asks_fetch 0 1 ∷ asks_release ∷ is_loaded 1 ∷ [])
    ∷ (511, asks_find ∷ asks_fetch 0 511 ∷ asks_release ∷ is_loaded 511 ∷ [])
    ∷ (512, asks_find ∷ asks_fetch 0 512 ∷ asks_release ∷ is_loaded 512 ∷ [])
    ∷ (
      513,
      asks_find ∷ asks_fetch 0 512 ∷ asks_fetch 512 1 ∷ asks_release ∷ is_loaded 513 ∷ [],
    )
    ∷ (
      2040,
      asks_find ∷ asks_fetch 0 512 ∷ asks_fetch 512 512 ∷ asks_fetch 1024 512
          ∷ asks_fetch 1536 504 ∷ asks_release ∷ is_loaded 2040 ∷ [],
    )
    ∷ []

-- so many turns as there are
abbrev pub load_turns : ℕ → List Next → List Next
load_turns size wanted = turns (length wanted) (loads size)

pub load_rows-follow : map (λ row. load_turns row.0 row.1) load_rows
    ≡ map (λ row. row.1) load_rows
unfolding first_free
load_rows-follow = refl

-- what is kept then, and the images without a loan
pub load_rows-kept : map (λ row. turned (length row.1) (loads row.0)) load_rows
    ≡ map (λ row. record {
      loader = record {
        running = None;
        kept = Some (record { tag = codes "boot"; bytes = pieces row.0 });
      };
      images = alone (codes "boot") (pieces row.0);
      follows = is_loaded row.0;
    }) load_rows
unfolding first_free
load_rows-kept = refl

-- a tag with no image
pub load-none : turns 2 (begun no_images) ≡ asks_find ∷ next.Failed (codes "boot") ∷ []
load-none = refl

-- ---- failures

-- an image that is kept
abbrev pub kept_image : Option Image
kept_image = Some (record { tag = codes "old"; bytes = 9 ∷ [] })

-- a loader that keeps an image and waits, with one byte so far
abbrev pub waiting : Awaits → Loader
waiting awaits = record {
  running = Some (record { tag = codes "boot"; awaits = awaits; bytes = 5 ∷ [] });
  kept = kept_image;
}

-- what a download waits for, and the ends of that at which it fails
abbrev pub failing_ends : List (Awaits × Outcome)
failing_ends =
    (Awaits.Find, outcome.Answered 0x08 [])
    ∷ (Awaits.Find, outcome.Answered 0x07 (1 ∷ 3 ∷ 0 ∷ 0 ∷ 0 ∷ []))
    ∷ (Awaits.Find, outcome.Answered 0x00 (1 ∷ 3 ∷ 0 ∷ 0 ∷ []))
    ∷ (Awaits.Find, outcome.Answered 0x00 (1 ∷ 3 ∷ 0 ∷ 0 ∷ 0 ∷ 0 ∷ []))
    ∷ (Awaits.Find, outcome.Cancelled)
    ∷ (Awaits.Find, outcome.Timeout)
    ∷ (Awaits.Find, outcome.Disconnected)
    ∷ (Awaits.Find, outcome.Sent)
    ∷ (Awaits.Fetch 1 3, outcome.Answered 0x00 (6 ∷ []))
    ∷ (Awaits.Fetch 1 3, outcome.Answered 0x00 (6 ∷ 7 ∷ 8 ∷ []))
    ∷ (Awaits.Fetch 1 3, outcome.Answered 0x06 (6 ∷ 7 ∷ []))
    ∷ (Awaits.Fetch 1 3, outcome.Disconnected)
    ∷ (Awaits.Release, outcome.Answered 0x00 (0 ∷ []))
    ∷ (Awaits.Release, outcome.Answered 0x08 [])
    ∷ (Awaits.Release, outcome.Timeout)
    ∷ []

-- the loader keeps what it had
pub failing_ends-fail : map (λ row. loader_ended row.1 (waiting row.0)) failing_ends
    ≡ map (λ row. Some (record {
      after = record { running = None; kept = kept_image };
      next = next.Failed (codes "boot");
    })) failing_ends
failing_ends-fail = refl

-- two bytes more are the rest of three
pub rest-fetched : loader_ended (outcome.Answered 0x00 (6 ∷ 7 ∷ [])) (waiting (Awaits.Fetch 1 3))
    ≡ Some (record {
      after = record {
        running = Some (record {
          tag = codes "boot";
          awaits = Awaits.Release;
          bytes = 5 ∷ 6 ∷ 7 ∷ [];
        });
        kept = kept_image;
      };
      next = asks_release;
    })
rest-fetched = refl

-- nothing runs
pub idle-ended : loader_ended (outcome.Answered 0x00 []) first_loader ≡ None
idle-ended = refl

-- ---- the loader of a module

-- a firmware device has no requests to it
pub firmware-answers : answers_of (connected kind.Firmware)
    ((1, 0x01, boot_field) ∷ (1, 0x02, fetch 1 0 1) ∷ (1, 0x03, 1 ∷ []) ∷ (1, 0x00, []) ∷ [])
    ≡ refusal_of 0x04 ∷ refusal_of 0x04 ∷ refusal_of 0x04 ∷ refusal_of 0x04 ∷ []
firmware-answers = refl

-- its CPort 1 on, quiet, and off again, with a download of `boot`
abbrev pub on_loading : Module
on_loading = module_load (connected kind.Firmware) 1 (codes "boot")

abbrev pub quiet_loading : Module
quiet_loading = after_all on_loading ((0, 0x0c, 1 ∷ 0 ∷ []) ∷ [])

abbrev pub off_loading : Module
off_loading = after_all quiet_loading ((0, 0x06, 1 ∷ 0 ∷ []) ∷ [])

-- what follows at CPort 1
abbrev pub follows_at : Module → Outcome → Option Next
follows_at m how = option_map (λ t. t.next) (module_ended m 1 how)

-- FIND of an image of no bytes is answered
abbrev pub found_empty : Outcome
found_empty = outcome.Answered 0x00 (1 ∷ 0 ∷ 0 ∷ 0 ∷ 0 ∷ [])

-- a request follows only where the CPort is on
pub follows-by-state : map (λ m. follows_at m found_empty)
    (on_loading ∷ quiet_loading ∷ off_loading ∷ connected kind.Firmware ∷ connected kind.Gpio ∷ [])
    ≡ Some asks_release ∷ Some (next.Failed (codes "boot")) ∷ Some (next.Failed (codes "boot"))
    ∷ None ∷ None ∷ []
follows-by-state = refl

-- the module after an end
abbrev pub ended_module : Module → Option ModuleLoaded → Module
ended_module m None = m
ended_module m (Some t) = t.after

abbrev pub after_end : Module → Outcome → Module
after_end m how = ended_module m (module_ended m 1 how)

-- a download that waits for the answer of RELEASE, its CPort on or quiet
abbrev pub on_releasing : Module
on_releasing = after_end on_loading found_empty

abbrev pub quiet_releasing : Module
quiet_releasing = after_all on_releasing ((0, 0x0c, 1 ∷ 0 ∷ []) ∷ [])

-- it is done in each state
pub done-by-state : map (λ m. follows_at m (outcome.Answered 0x00 []))
    (on_releasing ∷ quiet_releasing ∷ [])
    ≡ Some (is_loaded 0) ∷ Some (is_loaded 0) ∷ []
done-by-state = refl

-- the image of `boot` is kept only where the download is done
pub kept-by-end : map (λ m. kept_at m 1)
    (after_end on_releasing (outcome.Answered 0x00 []) ∷ after_end on_loading outcome.Timeout
    ∷ after_end quiet_loading found_empty ∷ module_fail on_releasing 1 ∷ on_releasing ∷ [])
    ≡ Some (record { tag = codes "boot"; bytes = [] }) ∷ None ∷ None ∷ None ∷ None ∷ []
kept-by-end = refl

-- the tag of the download that runs
pub tags-running : map (λ m. tag_at m 1)
    (on_loading ∷ quiet_loading ∷ on_releasing ∷ after_end quiet_loading found_empty
    ∷ module_fail on_loading 1 ∷ connected kind.Gpio ∷ [])
    ≡ codes "boot" ∷ codes "boot" ∷ codes "boot" ∷ [] ∷ [] ∷ [] ∷ []
tags-running = refl

-- CONNECTED brings back the first state
pub connected-anew : loader_at (after_all off_loading ((0, 0x05, 1 ∷ 0 ∷ []) ∷ [])) 1
    ≡ Some first_loader
connected-anew = refl
