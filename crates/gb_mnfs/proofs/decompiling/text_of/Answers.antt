use Rattle.std.proofs.Common.{ap, ◌∙◌, [], ◌∷◌, ◌++◌, ℕ}
use Rattle.std.specs.List.{find, flat_map}
use Rattle.std.specs.String.{string_bytes}
use Rattle.gb_formats.specs.ManifestRules.{is_interface}
use Rattle.gb_formats.specs.SourceTexts.{bundle_in, bundle_lines, cport_in, cport_lines}
use Rattle.gb_formats.specs.SourceTexts.{features_of, header_lines, interface_lines, lines_text}
use Rattle.gb_formats.specs.SourceTexts.{product_of, string_in, string_lines, vendor_of}
use Rattle.gb_mnfs.proofs.SourceText.{five}
use Rattle.gb_mnfs.proofs.decompiling.text_of.Goals as goal

pub returns : goal.returns
returns c =
    let m = c.args.m.now in
    let i = find is_interface m.descriptors in
    five (header_lines m.minor)
    ([] ∷ interface_lines (vendor_of i) (product_of i) (features_of i))
    (flat_map string_lines (flat_map string_in m.descriptors))
    (flat_map bundle_lines (flat_map bundle_in m.descriptors))
    (flat_map cport_lines (flat_map cport_in m.descriptors))
    (string_bytes c.in_ok-text.text) (string_bytes c.put_header.new.text)
    (string_bytes c.put_interface.new.text) (string_bytes c.put_strings.new.text)
    (string_bytes c.put_bundles.new.text) (string_bytes c.put_cports.new.text)
    c.in_ok-text.ensures
    (c.in_ok-put_header.ensures
    ∙ ap (λ (n : ℕ). string_bytes c.in_ok-text.text ++ lines_text (header_lines n)) c.minor.ensures)
    (c.in_ok-put_interface.ensures
    ∙ ap (λ (n : ℕ). string_bytes c.put_header.new.text ++ lines_text ([] ∷ interface_lines n
    c.interface-vendor.result.1 c.interface-vendor.result.2)) c.interface-vendor.ensures.vendor
    ∙ ap (λ (n : ℕ). string_bytes c.put_header.new.text ++ lines_text ([] ∷ interface_lines
    (vendor_of i) n c.interface-vendor.result.2)) c.interface-vendor.ensures.product
    ∙ ap (λ (n : ℕ). string_bytes c.put_header.new.text ++ lines_text ([] ∷ interface_lines
    (vendor_of i) (product_of i) n)) c.interface-vendor.ensures.features)
    c.in_ok-put_strings.ensures c.in_ok-put_bundles.ensures c.in_ok-put_cports.ensures
