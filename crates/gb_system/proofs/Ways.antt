-- On which connection a request of a script goes, and when it is refused.
use Rattle.std.proofs.Common.{◌≡◌, ◌≤◌, ◌<◌, ℕ, Bool, true, false, cond, Option, Some, None}
use Rattle.std.proofs.Common.{is_some, is_none, IsSome, option_map, Ok, Err, List, [], ◌∷◌, ◌++◌}
use Rattle.std.proofs.Common.{append_assoc, length, refl, sym, ap, ◌∙◌, arith}
use Rattle.std.specs.Bool.{⊤}
use Rattle.std.proofs.lemmas.Bool.Decides.{nat_tests}
use Rattle.gb_base.specs.declared.end.End.{End}
use Rattle.gb_base.specs.declared.end.End.TheVariants as end
use Rattle.gb_base.specs.declared.end.Side.TheVariants as side
use Rattle.gb_base.specs.declared.name.Name.{Name}
use Rattle.gb_base.specs.declared.interface.Link.{Link}
use Rattle.gb_base.specs.declared.refusal.Refusal.{Refusal}
use Rattle.gb_base.specs.declared.refusal.Refusal.TheVariants as why
use Rattle.gb_machine.specs.Bus.{Bus}
use Rattle.gb_machine.specs.Host.{link_at}
use Rattle.gb_machine.specs.HostRefusals.{is_kept, send_conditions}
use Rattle.gb_machine.specs.Labels.{next_label}
use Rattle.gb_machine.specs.Lists.{Condition, conditions_of, first_met}
use Rattle.gb_machine.specs.Names.{is_bound, named}
use Rattle.gb_machine.specs.Refusals.{is_long_payload, send_to_conditions}
use Rattle.gb_machine.specs.State.{State}
use Rattle.gb_system.proofs.NamedRequests.{named-is}
use Rattle.gb_system.specs.Sending.{GoesAs, IsWay, LeadsAs, way_conditions}
use Rattle.gb_system.specs.Stands.{PartiesStand}
use Rattle.gb_system.specs.declared.parties.Parties.{Parties}

-- ---- conditions in their order

-- the first of the conditions is the one of the early ones, where one is met
pub met-early : (cs ds : List Condition) (why : Refusal) → first_met cs ≡ Some why
    → first_met (cs ++ ds) ≡ Some why
met-early [] ds why h = absurd cc
met-early (c ∷ cs) ds why h = by c.0 (met-early cs ds why) h
  where
    by : (met : Bool) → (first_met cs ≡ Some why → first_met (cs ++ ds) ≡ Some why)
        → cond met (Some c.1) (first_met cs) ≡ Some why
        → cond met (Some c.1) (first_met (cs ++ ds)) ≡ Some why
    by true rec f = f
    by false rec f = rec f

-- and else one of the later ones
pub met-late : (cs ds : List Condition) → first_met cs ≡ None → first_met (cs ++ ds) ≡ first_met ds
met-late [] ds h = refl
met-late (c ∷ cs) ds h = by c.0 (met-late cs ds) h
  where
    by : (met : Bool) → (first_met cs ≡ None → first_met (cs ++ ds) ≡ first_met ds)
        → cond met (Some c.1) (first_met cs) ≡ None
        → cond met (Some c.1) (first_met (cs ++ ds)) ≡ first_met ds
    by true rec f = absurd cc
    by false rec f = rec f

-- ---- the way to an end

-- that a type is kept on a connection
abbrev kept_conditions : ℕ → Option Link → List Condition
kept_conditions kind link = conditions_of (λ l. (is_kept l kind, why.Unsupported) ∷ []) link

-- ---- the way of a request

-- what is left of the conditions, behind those of the way: by the connection
abbrev rest_on : List ℕ → Bus → ℕ → List Condition
rest_on payload b k =
    (is_long_payload payload, why.TooLarge) ∷ (is_none (next_label k side.Ap b), why.NoLabel) ∷ []

-- by the end
abbrev rest_to : State → End → List ℕ → List Condition
rest_to s end.Svc payload = rest_on payload s.bus 1
rest_to s (end.Module i c) payload =
    conditions_of (λ l. rest_on payload s.bus l.connection) (link_at i c s.host)
rest_to s (end.Ap a) payload = []

-- all conditions
abbrev all_conditions : State → Name → End → ℕ → List ℕ → List Condition
all_conditions s name to kind payload =
    (is_bound name s, why.Occupied) ∷ way_conditions to kind s.host ++ rest_to s to payload

-- the conditions of a connection, in two parts
two-parts : (kind : ℕ) (payload : List ℕ) (b : Bus) (link : Option Link)
    → kept_conditions kind link ++ conditions_of (λ l. rest_on payload b l.connection) link
    ≡ conditions_of (λ l. (is_kept l kind, why.Unsupported) ∷ rest_on payload b l.connection) link
two-parts kind payload b None = refl
two-parts kind payload b (Some l) = refl

-- an end isn't the application processor's
abbrev pub IsOut : End → Type 0
IsOut end.Svc = ⊤
IsOut (end.Ap a) = ⊥
IsOut (end.Module i c) = ⊤

-- these are the machine's, to an end that isn't the application processor's
all-is : (s : State) (name : Name) (to : End) (kind : ℕ) (payload : List ℕ) → IsOut to
    → first_met (send_to_conditions s name to kind payload)
    ≡ first_met (all_conditions s name to kind payload)
all-is s name end.Svc kind payload far = refl
all-is s name (end.Ap a) kind payload far = absurd far
all-is s name (end.Module i c) kind payload far =
    sym (ap (λ cs. first_met ((is_bound name s, why.Occupied) ∷ cs))
    (append_assoc (send_conditions i c s.host) (kept_conditions kind (link_at i c s.host))
    (conditions_of (λ l. rest_on payload s.bus l.connection) (link_at i c s.host))
    ∙ ap (λ cs. send_conditions i c s.host ++ cs)
    (two-parts kind payload s.bus (link_at i c s.host))))

-- what is left of the conditions on the connection that is the way
rest-is : (s : State) (to : End) (payload : List ℕ) (k : ℕ) → IsOut to → IsWay to s.host k
    → first_met (rest_to s to payload) ≡ first_met (rest_on payload s.bus k)
rest-is s end.Svc payload k far way = ap (λ j. first_met (rest_on payload s.bus j)) (sym way)
rest-is s (end.Ap a) payload k far way = absurd far
rest-is s (end.Module i c) payload k far way = by (link_at i c s.host) way
  where
    by : (link : Option Link) → option_map (λ (l : Link). l.connection) link ≡ Some k
        → first_met (conditions_of (λ l. rest_on payload s.bus l.connection) link)
        ≡ first_met (rest_on payload s.bus k)
    by None e = absurd cc
    by (Some l) e = ap (λ j. first_met (rest_on payload s.bus j)) (cc (e))

-- of an end of the application processor nothing is said
goes-by : (s : State) (name : Name) (to : End) (kind : ℕ) (payload : List ℕ) (why : Refusal)
    → (IsOut to → first_met (all_conditions s name to kind payload) ≡ Some why)
    → GoesAs s name to kind payload (Err why)
goes-by s name end.Svc kind payload why is = is tt
goes-by s name (end.Ap a) kind payload why is = tt
goes-by s name (end.Module i c) kind payload why is =
    all-is s name (end.Module i c) kind payload tt ∙ is tt

goes-out : (s : State) (name : Name) (to : End) (kind : ℕ) (payload : List ℕ) (k : ℕ)
    → (IsOut to → (first_met (all_conditions s name to kind payload) ≡ None)
    × IsWay to s.host k × IsSome (next_label k side.Ap s.bus))
    → GoesAs s name to kind payload (Ok k)
goes-out s name end.Svc kind payload k is = is tt
goes-out s name (end.Ap a) kind payload k is = tt
goes-out s name (end.Module i c) kind payload k is =
    let it = is tt in (all-is s name (end.Module i c) kind payload tt ∙ it.0, it.1, it.2)

-- what is there
pub is-there : {A : Type 0} (o : Option A) → is_none o ≡ false → IsSome o
is-there None h = absurd (cc (h))
is-there (Some n) h = refl

-- a payload that is too long, or isn't
short-is : (payload : List ℕ) → length payload ≤ 2040 → is_long_payload payload ≡ false
short-is payload h = grind (arith, nat_tests, h)

long-is : (payload : List ℕ) → 2040 < length payload → is_long_payload payload ≡ true
long-is payload h = grind (arith, nat_tests, h)

module _ (x : Parties) (s : State) (st : PartiesStand x s) (name : Name) (to : End) (kind : ℕ)
    (payload : List ℕ) where
  by-name : (bound : Bool) → is_some (named name x.names) ≡ bound
      → first_met (all_conditions s name to kind payload) ≡ cond bound (Some why.Occupied)
      (first_met (way_conditions to kind s.host ++ rest_to s to payload))
  by-name bound is =
      ap (λ b. cond b (Some why.Occupied)
      (first_met (way_conditions to kind s.host ++ rest_to s to payload)))
      (ap is_some (named-is x s name st) ∙ is)

  -- the name isn't free
  pub goes-occupied : is_some (named name x.names) ≡ true
      → GoesAs s name to kind payload (Err why.Occupied)
  goes-occupied taken = goes-by s name to kind payload why.Occupied (λ out. by-name true taken)

  module _ (free : is_some (named name x.names) ≡ false) where
    -- there is no way
    pub goes-nowhere : (reason : Refusal) → LeadsAs s.host to kind (Err reason)
        → GoesAs s name to kind payload (Err reason)
    goes-nowhere reason is =
        goes-by s name to kind payload reason (λ out.
        by-name false free
        ∙ met-early (way_conditions to kind s.host) (rest_to s to payload) reason is)

    module _ (k : ℕ) (is : LeadsAs s.host to kind (Ok k)) where
      -- with a way, its connection decides
      by-way : (long spent : Bool) → is_long_payload payload ≡ long
          → is_none (next_label k side.Ap s.bus) ≡ spent → IsOut to
          → first_met (all_conditions s name to kind payload)
          ≡ first_met ((long, why.TooLarge) ∷ (spent, why.NoLabel) ∷ [])
      by-way long spent length_is label_is out =
          by-name false free
          ∙ met-late (way_conditions to kind s.host) (rest_to s to payload) is.0
          ∙ rest-is s to payload k out is.1
          ∙ ap (λ t. first_met ((t, why.TooLarge)
          ∷ (is_none (next_label k side.Ap s.bus), why.NoLabel) ∷ [])) length_is
          ∙ ap (λ t. first_met ((long, why.TooLarge) ∷ (t, why.NoLabel) ∷ [])) label_is

      -- the payload is too long
      pub goes-long : 2040 < length payload → GoesAs s name to kind payload (Err why.TooLarge)
      goes-long long =
          goes-by s name to kind payload why.TooLarge
          (by-way true (is_none (next_label k side.Ap s.bus)) (long-is payload long) refl)

      module _ (short : length payload ≤ 2040) (spent : Bool)
          (by : spent ≡ is_none (next_label k side.Ap s.bus)) where
        -- no identifier is left
        pub goes-spent : spent ≡ true → GoesAs s name to kind payload (Err why.NoLabel)
        goes-spent it =
            goes-by s name to kind payload why.NoLabel
            (by-way false true (short-is payload short) (sym by ∙ it))

        -- the request goes
        pub goes : spent ≡ false → GoesAs s name to kind payload (Ok k)
        goes it =
            goes-out s name to kind payload k (λ out. (
              by-way false false (short-is payload short) (sym by ∙ it) out,
              is.1,
              is-there (next_label k side.Ap s.bus) (sym by ∙ it),
            ))
