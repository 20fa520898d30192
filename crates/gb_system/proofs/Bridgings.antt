-- A bridge line is refused, or becomes a request, as the machine does.
use Rattle.std.proofs.Common.{◌≡◌, ℕ, Bool, true, false, cond}
use Rattle.std.proofs.Common.{Option, Some, None, is_some, is_none, option_map, Result, Ok, Err}
use Rattle.std.proofs.Common.{List, [], ◌∷◌, ◌++◌, refl, sym, ap, ◌∙◌}
use Rattle.gb_base.specs.declared.bridge.BridgeAsk.{BridgeAsk}
use Rattle.gb_base.specs.declared.bridge.Bridged.{Bridged}
use Rattle.gb_base.specs.declared.end.Side.TheVariants as side
use Rattle.gb_base.specs.declared.name.Name.{Name}
use Rattle.gb_base.specs.declared.interface.Link.{Link}
use Rattle.gb_base.specs.declared.refusal.Refusal.{Refusal}
use Rattle.gb_base.specs.declared.refusal.Refusal.TheVariants as why
use Rattle.gb_host.specs.Bridging.{BridgesOn}
use Rattle.gb_host.specs.Refusing.{SendsAs}
use Rattle.gb_invariants.proofs.Lists.{found-in}
use Rattle.gb_laws.proofs.runs.Reached.{reached-link}
use Rattle.gb_machine.proofs.Conditions.{front-unmet, unmet, unrefused}
use Rattle.gb_machine.specs.Host.{Host, is_link, link_at, link_of}
use Rattle.gb_machine.specs.HostRefusals.{bridge_conditions, send_conditions}
use Rattle.gb_machine.specs.Labels.{next_label}
use Rattle.gb_machine.specs.Lists.{Condition, conditions_of, first_met}
use Rattle.gb_machine.specs.Names.{is_bound, named}
use Rattle.gb_machine.specs.Refusals.{has_no_label, line_conditions}
use Rattle.gb_machine.specs.State.{State}
use Rattle.gb_system.proofs.NamedRequests.{named-is}
use Rattle.gb_system.proofs.Ways.{is-there, met-early, met-late}
use Rattle.gb_system.specs.Bridging.{IsBridged}
use Rattle.gb_system.specs.Stands.{PartiesStand}
use Rattle.gb_system.specs.declared.parties.Parties.{Parties}

-- ---- conditions in their order

-- the conditions of a connection
abbrev on_link : State → BridgeAsk → Option Link → List Condition
on_link s what o =
    conditions_of (λ l. bridge_conditions l what
    ++ (has_no_label l.connection side.Ap s, why.NoLabel) ∷ []) o

-- those behind the name's
abbrev on_end : State → ℕ → ℕ → BridgeAsk → List Condition
on_end s i c what = send_conditions i c s.host ++ on_link s what (link_at i c s.host)

-- ---- the connection to a CPort

-- A connection leads to a CPort, and is found by its number.
pub record IsLink (h : Host) (i c k : ℕ) : Type 0 where
  pub link : Link
  pub there : link_at i c h ≡ Some link
  pub number : link.connection ≡ k
  pub of_number : link_of k h ≡ Some link

pub is-link : (s : State) (x : Parties) (i c k : ℕ) → PartiesStand x s
    → option_map (λ (l : Link). l.connection) (link_at i c s.host) ≡ Some k
    → IsLink s.host i c k
is-link s x i c k st way = by (link_at i c s.host) refl way
  where
    by : (o : Option Link) → link_at i c s.host ≡ o
        → option_map (λ (l : Link). l.connection) o ≡ Some k → IsLink s.host i c k
    by None there e = absurd cc
    by (Some l) there e =
        let number : l.connection ≡ k = cc in record {
          link = l;
          there = there;
          number = number;
          of_number = ap (λ n. link_of n s.host) (sym number)
              ∙ reached-link s l st.run (found-in (is_link i c) s.host.links l there).0;
        }

-- ---- refusals

-- what is known of a connection on which a line is bridged
abbrev pub BridgesThere : Host → ℕ → BridgeAsk → List ℕ → List ℕ → Result Bridged Refusal → Type 0
BridgesThere h k what old new result =
    (l : Link) → link_of k h ≡ Some l → BridgesOn l what old new result

module _ (x : Parties) (s : State) (st : PartiesStand x s) (name : Name) (i c : ℕ)
    (what : BridgeAsk) where
  by-name : (bound : Bool) → is_some (named name x.names) ≡ bound
      → first_met (line_conditions s name i c what)
      ≡ cond bound (Some why.Occupied) (first_met (on_end s i c what))
  by-name bound is =
      ap (λ b. cond b (Some why.Occupied) (first_met (on_end s i c what)))
      (ap is_some (named-is x s name st) ∙ is)

  -- its name isn't free
  pub bridge-occupied : is_some (named name x.names) ≡ true
      → first_met (line_conditions s name i c what) ≡ Some why.Occupied
  bridge-occupied taken = by-name true taken

  module _ (free : is_some (named name x.names) ≡ false) where
    -- nothing is sent to the CPort
    pub bridge-nowhere : (why : Refusal)
        → SendsAs (first_met (send_conditions i c s.host)) (link_at i c s.host) (Err why)
        → first_met (line_conditions s name i c what) ≡ Some why
    bridge-nowhere why way =
        by-name false free
        ∙ met-early (send_conditions i c s.host) (on_link s what (link_at i c s.host)) why way

    module _ (k : ℕ)
        (way : SendsAs (first_met (send_conditions i c s.host)) (link_at i c s.host) (Ok k)) where
      -- the connection decides
      line-link : IsLink s.host i c k
      line-link = is-link s x i c k st way.1

      on-link : first_met (line_conditions s name i c what)
          ≡ first_met (on_link s what (Some line-link.link))
      on-link =
          by-name false free
          ∙ met-late (send_conditions i c s.host) (on_link s what (link_at i c s.host)) way.0
          ∙ ap (λ o. first_met (on_link s what o)) line-link.there

      -- that no identifier is left on it
      abbrev last : List Condition
      last = (has_no_label line-link.link.connection side.Ap s, why.NoLabel) ∷ []

      -- the line is refused on it
      pub bridge-unfit : (old new : List ℕ) (why : Refusal)
          → BridgesThere s.host k what old new (Err why)
          → first_met (line_conditions s name i c what) ≡ Some why
      bridge-unfit old new how refuses =
          on-link ∙ met-early (bridge_conditions line-link.link what) last how
          (refuses line-link.link line-link.of_number)

      module _ (old new : List ℕ) (b : Bridged) (writes : BridgesThere s.host k what old new (Ok b))
          (spent : Bool) (is : spent ≡ is_none (next_label k side.Ap s.bus)) where
        -- then the identifiers decide
        by-label : first_met (line_conditions s name i c what) ≡ cond spent (Some why.NoLabel) None
        by-label =
            on-link
            ∙ met-late (bridge_conditions line-link.link what) last
            (writes line-link.link line-link.of_number).0
            ∙ ap (λ j. cond (is_none (next_label j side.Ap s.bus)) (Some why.NoLabel) None)
            line-link.number
            ∙ ap (λ t. cond t (Some why.NoLabel) None) (sym is)

        -- no identifier is left
        pub bridge-spent : spent ≡ true
            → first_met (line_conditions s name i c what) ≡ Some why.NoLabel
        bridge-spent it = by-label ∙ ap (λ t. cond t (Some why.NoLabel) None) it

        -- the line becomes a request
        pub bridge-goes : spent ≡ false
            → IsBridged s name i c what old new (record { connection = k; request = b })
        bridge-goes it = record {
          allowed = by-label ∙ ap (λ t. cond t (Some why.NoLabel) None) it;
          link = line-link.link;
          there = line-link.there;
          number = line-link.number;
          written = (writes line-link.link line-link.of_number).1;
          label = is-there (next_label k side.Ap s.bus) (sym is ∙ it);
        }

-- where a line isn't refused, its connection doesn't refuse it
pub line-met : (s : State) (name : Name) (i c : ℕ) (what : BridgeAsk) (l : Link)
    → link_at i c s.host ≡ Some l → first_met (line_conditions s name i c what) ≡ None
    → first_met (bridge_conditions l what) ≡ None
line-met s name i c what l there allowed =
    unrefused (bridge_conditions l what) (front-unmet (bridge_conditions l what) last
    (unmet (bridge_conditions l what ++ last) met))
  where
    front : List Condition
    front = (is_bound name s, why.Occupied) ∷ send_conditions i c s.host

    last : List Condition
    last = (has_no_label l.connection side.Ap s, why.NoLabel) ∷ []

    met : first_met (on_link s what (Some l)) ≡ None
    met =
        ap (λ o. first_met (on_link s what o)) (sym there)
        ∙ sym (met-late front (on_link s what (link_at i c s.host))
        (unrefused front (front-unmet front (on_link s what (link_at i c s.host))
        (unmet (front ++ on_link s what (link_at i c s.host)) allowed))))
        ∙ allowed
