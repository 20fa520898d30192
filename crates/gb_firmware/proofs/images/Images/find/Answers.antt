-- An image is lent.
use Rattle.std.proofs.Common.{◌≡◌, ◌∙◌, Some, [], ◌∷◌, ◌++◌, arith, ap, option_map, length, find}
use Rattle.std.proofs.Common.{rules}
use Rattle.gb_formats.specs.FirmwareRecords.{FirmwareReply, firmware_reply_payload}
use Rattle.gb_formats.specs.Images.{free_id, has_tag, tag_spelled}
use Rattle.gb_formats.specs.Results.{answer_of}
use Rattle.gb_firmware.proofs.Lent.{lends_more, lends_one}
use Rattle.gb_firmware.proofs.images.Images.find.Goals as goal

pub returns-in_err-lend-clause-few : goal.returns-in_err-lend-clause-few
returns-in_err-lend-clause-few c = λ few none.
    let x = c.args.self.now in
    let tag = c.in-Some.tag.now in
    let image = c.in-Some-image_in.image.now in
    let spells : tag_spelled c.args.field.now ≡ Some tag = search rules in
    let first : find (has_tag tag) x.given ≡ Some image = search rules in
    let free : free_id c.args.connection x ≡ Some c.in-Some-free_id.id = search rules in
    let more = lends_more c.args.connection c.in-Some-free_id.id c.args.field.now tag image.bytes x
    spells (ap (option_map (λ i. i.bytes)) first) free in
    absurd (omega (arith, more, none))

pub returns-clause-step : goal.returns-clause-step
returns-clause-step c =
    let x = c.args.self.now in
    let tag = c.in-Some.tag.now in
    let image = c.in-Some-image_in.image.now in
    let spells : tag_spelled c.args.field.now ≡ Some tag = search rules in
    let first : find (has_tag tag) x.given ≡ Some image = search rules in
    let free : free_id c.args.connection x ≡ Some c.in-Some-free_id.id = search rules in
    let tagged : c.copied.result ≡ tag = search rules in
    lends_one c.args.connection c.in-Some-free_id.id c.args.field.now tag image.bytes _ _ _ x _
    c.self.view_is spells (ap (option_map (λ i. i.bytes)) first) free
    (c.lent.ensures
    ∙ ap (λ bytes. answer_of (firmware_reply_payload
    (FirmwareReply.Find c.in-Some-free_id.id (length bytes))))
    (c.items-2.ensures ∙ ap (λ i. i.bytes) c.image.view_is))
    (c.in_ok-lend.ensures.ok
    ∙ ap (λ t. c.self.inside.loans
    ++ record { connection = c.args.connection; id = c.in-Some-free_id.id; tag = t } ∷ []) tagged)
