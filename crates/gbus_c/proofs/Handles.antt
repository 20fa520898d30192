-- A handle by value is its parts: a box with the handle of its memory, or null.
use mathlib.Core.Path.{◌≡◌, refl, subst}
use Prim.Native.Nat.{ℕ}
use mathlib.Core.List.{List, [], ◌∷◌, ◌++◌}
use mir.Raw.{raw as bare}
use seplogic.Ra.Ura.{Ura}
use mir.Val.{Val, vptr, vstruct, of_list}
use base.Logic.{ent, guard, fst∗, snd∗, never, via, guard_i}
use types.Logic.{Logic, sem}
use types.Kit.{Item, Goal, Seq, Step, step, given, ‵, ◌$◌, move, drop, use1, learn, fsplit, fjoin}
use types.Kit.{fpick, fpack, feq_i, feq_l}
use contract.Monad.{fact_use}
use denote.RattleType.{RattleType, Valss}
use denote.Memory.{lone}
use denote.RawPtr.{Ptr, block_ptr, null_ptr, ptr_val, in_a_block, Testable}
use denote.Steps.{nothing}
use denote.Struct.Struct.{within}
use denote.Struct.Owning.{shape, to}
use Rattle.std.specs.Prelude.{Option, Some, None}
use Rattle.core.specs.Ptr.{points_to}
use Rattle.core.proofs.alloc.Calls.{Fits, handle_tells, token}
use Rattle.std_alloc.specs.Box.Ownership.{box_owns}
use Rattle.std_alloc.proofs.BoxSteps.Form.{R, X, τ, handle}
use Rattle.std_heap.specs.declared.Global.{Global}
use Rattle.std_heap.proofs.GlobalToken.{dealloc_token-Testable}
use Rattle.gbus_c.specs.Handles.{handle_owns}
use Rattle.gbus_c.specs.contracts.handle.Handle as Handle
use Rattle.gbus_c.proofs.AsBox.{E}

-- the machine value of a handle: a pointer, and the handle of its memory
abbrev pub both : Val → Val → Val
both v w = vstruct (of_list (v ∷ w ∷ []))

abbrev pub boxed : Global → Ptr → X E → base.Fml.Fml
boxed a p x = box_owns (token E.al a) (R E) p x

module _ {M : Type 1} {𝓤 : Ura M} (𝓛 : Logic 𝓤) (a : Global) (p : Ptr) (x : X E) where
  tested : ent 𝓤 (sem 𝓛 (boxed a p x)) (guard 𝓤 (Testable p) (sem 𝓛 (boxed a p x)))
  tested =
      fact_use 𝓤 (Testable p)
      (via 𝓤 _ (snd∗ 𝓤 (sem 𝓛 (points_to (R E) p x)) (sem 𝓛 (token E.al a (bare (lone
      (R E).mir)) p)))
      (dealloc_token-Testable 𝓛 a (bare (lone (R E).mir)) p)) (guard_i 𝓤 (Testable p) (sem 𝓛
      (boxed a p x)))

module _ {M : Type 1} {𝓤 : Ura M} {𝓛 : Logic 𝓤} {K : Type 0} {Γ : List (Item 𝓤)} {G : Goal 𝓤 𝓛.H}
    (a : Global) where
  -- by cases on the session
  pub either : K → (p : Ptr) (s : Option (X E))
      → (p ≡ null_ptr → s ≡ None → Seq K 𝓛 Γ G)
      → ((b o : ℕ) (x : X E) → p ≡ block_ptr b o → s ≡ Some x → Testable (block_ptr b o)
      → Seq K 𝓛 (‵ (boxed a (block_ptr b o) x) ∷ Γ) G)
      → Seq K 𝓛 (‵ (handle_owns a p s) ∷ Γ) G
  either t p None none one = feq_l t (λ e. none e refl)
  either t p (Some x) none one =
      in_a_block t p (λ q. boxed a q x)
      (fst∗ 𝓤 (never 𝓤) (sem 𝓛 (token E.al a (bare (τ E)) null_ptr))) (λ b o e.
      use1 𝓛 (given (Testable (block_ptr b o)) (‵ (boxed a (block_ptr b o) x))) (tested 𝓛 a
      (block_ptr b o) x) $
      learn t (λ may. one b o x e refl may))

abbrev pub Held : RattleType
Held = Handle.the_row

module _ {M : Type 1} {𝓤 : Ura M} {𝓛 : Logic 𝓤} {K : Type 0} {Γ : List
    (Item 𝓤)} {G : Goal 𝓤 𝓛.H} where
  -- a handle by value, by cases on the session
  pub handle_out : K → (d : Held.Denot) (vs : List Val)
      → ((hv : Val) → vs ≡ both (ptr_val null_ptr) hv ∷ [] → d.session ≡ None → Fits E.al hv
      → Seq K 𝓛 (‵ (handle E d.alloc hv) ∷ Γ) G)
      → ((b o : ℕ) (hv : Val) (x : X E) → vs ≡ both (vptr b o) hv ∷ [] → d.session ≡ Some x
      → Testable (block_ptr b o) → Fits E.al hv
      → Seq K 𝓛 (‵ (boxed d.alloc (block_ptr b o) x) ∷ ‵ (handle E d.alloc hv) ∷ Γ) G)
      → Seq K 𝓛 (‵ (Held.own_val d vs) ∷ Γ) G
  handle_out t d vs none one =
      fsplit t $ fpick t (λ vss. fsplit t $ feq_l t (λ ev. fsplit t $ feq_l t (λ ep. fsplit t $
      handle_tells E.al t d.alloc vss.1.0 (λ hv ea fa. move t (1 ∷ []) $ drop t $ move t (1 ∷ []) $
      let at : (q : Ptr) → d.at ≡ q → vs ≡ both (ptr_val q) hv ∷ [] = λ q e.
      subst (λ (p : Ptr). vs ≡ vstruct (of_list (ptr_val p ∷ hv ∷ [])) ∷ []) e
      (subst (λ (ws : List Val). vs ≡ vstruct (of_list (ptr_val d.at ∷ (ws ++ []))) ∷ []) ea
      (subst (λ (ps : List Val). vs ≡ vstruct (of_list (ps ++ (vss.1.0 ++ []))) ∷ []) ep ev)) in
      either d.alloc t d.at d.session
      (λ e is. none hv (at null_ptr e) is fa)
      (λ b o x e is may. one b o hv x (at (block_ptr b o) e) is may fa)))))

  -- a handle with no session
  pub none_in : K → {hv : Val} (a : Global)
      → Step K 𝓛 (‵ (Held.own_val (record { at = null_ptr; alloc = a; session = None }) (both
      (ptr_val null_ptr) hv ∷ [])) ∷ Γ) G
      (‵ (handle E a hv) ∷ Γ) G
  none_in t {hv} a = step (λ s. let w : Val = both (ptr_val null_ptr) hv in
      feq_i t Ptr null_ptr null_ptr refl $ nothing t $ move t (2 ∷ 0 ∷ []) $ fjoin t $
      feq_i t (List Val) (ptr_val null_ptr ∷ []) (ptr_val null_ptr ∷ []) refl $ fjoin t $
      feq_i t (List Val) (w ∷ []) (w ∷ []) refl $ fjoin t $
      fpack t (Valss (shape Handle.the_type).fields) (within (shape Handle.the_type)
      (to Handle.the_type (record { at = null_ptr; alloc = a; session = None })) (w ∷ []))
      (ptr_val null_ptr ∷ [], (hv ∷ [], tt)) $
      fjoin t $ s)
