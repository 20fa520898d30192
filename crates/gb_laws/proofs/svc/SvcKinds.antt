-- The type of a request of the SVC protocol is that of the record that its payload is.
use Rattle.std.proofs.Common.{Bool, List, Some, ap, cond, false, length, refl, sym, true, ℕ}
use Rattle.std.proofs.Common.{[], ◌∙◌, ◌∷◌, ◌≡◌}
use Rattle.std.specs.List.{find}
use Rattle.std.specs.Prelude.{Err, Ok, Result, min, sum, ◌+◌, ◌==◌}
use Rattle.gb_formats.specs.Records.{PayloadFault, Row, fields_of, read_row, read_table}
use Rattle.gb_formats.specs.SvcRecords.{SvcAsk, read_svc_ask, svc_ask_kind, svc_asks}
use Rattle.gb_machine.specs.{Members.Each}
use Rattle.gb_invariants.proofs.Outcomes.{same-number}

-- the records of a row have its type
abbrev HasKind : Row SvcAsk → Type 0
HasKind row = (fields : List ℕ) → svc_ask_kind (row.made fields) ≡ row.kind

read-kind : (rows : List (Row SvcAsk)) → Each HasKind rows → (kind : ℕ) (payload : List ℕ)
    (made : SvcAsk) → read_table rows kind payload ≡ Ok made → svc_ask_kind made ≡ kind
read-kind [] have kind payload made h = absurd cc
read-kind (row ∷ rows) have kind payload made h = by (row.kind == kind) refl
    (read-kind rows have.1 kind payload made) h
  where
    same-ok : (x y : SvcAsk) → (let r : Result SvcAsk PayloadFault = Ok x in r) ≡ Ok y → x ≡ y
    same-ok x y e = cc

    read : (t : Bool) → row.kind ≡ kind
        → cond t (Ok (row.made (fields_of row.widths payload))) (Err (PayloadFault.Mismatch
        (min (length payload) (sum row.widths + 1)))) ≡ Ok made → svc_ask_kind made ≡ kind
    read true e f = ap svc_ask_kind (sym (same-ok _ made f)) ∙ have.0 _ ∙ e
    read false e f = absurd cc

    by : (t : Bool) → (row.kind == kind) ≡ t
        → (read_table rows kind payload ≡ Ok made → svc_ask_kind made ≡ kind)
        → read_row (cond t (Some row) (find (λ r. r.kind == kind) rows)) payload ≡ Ok made
        → svc_ask_kind made ≡ kind
    by true e later f = read (length payload == sum row.widths) (same-number row.kind kind e) f
    by false e later f = later f

-- A request that is a record has its type.
pub svc-kind : (kind : ℕ) (payload : List ℕ) (made : SvcAsk) → read_svc_ask kind payload ≡ Ok made
    → svc_ask_kind made ≡ kind
svc-kind kind payload made h = read-kind svc_asks have kind payload made h
  where
    have : Each HasKind svc_asks
    have = (
      λ f. refl,
      (
        λ f. refl,
        (
          λ f. refl,
          (
            λ f. refl,
            (
              λ f. refl,
              (
                λ f. refl,
                (
                  λ f. refl,
                  (
                    λ f. refl,
                    (
                      λ f. refl,
                      (
                        λ f. refl,
                        (
                          λ f. refl,
                          (
                            λ f. refl,
                            (
                              λ f. refl,
                              (
                                λ f. refl,
                                tt,
                              ),
                            ),
                          ),
                        ),
                      ),
                    ),
                  ),
                ),
              ),
            ),
          ),
        ),
      ),
    )
