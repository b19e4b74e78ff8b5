-- One more call of a list. Assumes nothing.
use Rattle.std.proofs.Common.{◌≡◌, ℕ, ◌+◌, Bool, true, false, List, [], ◌∷◌, ◌++◌, map, Ok, Err, Option, Result, Vec, sym, ap, ◌∙◌, subst, arith}
use Rattle.std.specs.declared.alloc.Global.{Global}
use Rattle.settling.specs.declared.row.DocketRow.{DocketRow}
use Rattle.session.specs.declared.fault.SessionFault.{SessionFault}
use Rattle.session.specs.Rooms.{weight, Stocked}
use Rattle.std.proofs.lemmas.List.{map_push}
use Rattle.figure.specs.declared.figure.Figure.{Figure}
use Rattle.model.specs.Figures.{Rule}
use Rattle.model.specs.Runs.{Call, Reply, Past, next, ended, Right, Rights}
use Rattle.model.proofs.Passing.{ended_push, rights_push}
use Rattle.strips.specs.Tasks.{problem}
use Rattle.settling.specs.declared.base.Base.{Base}
use Rattle.session.specs.declared.call.Call.{Call as CallValue}
use Rattle.session.specs.declared.call.Answer.{Answer}
use Rattle.session.specs.declared.session.Session.{Session}
use Rattle.session.specs.Sessions.{task_of, Entering, Striking}
use Rattle.session.specs.Laws.{Led, Goes}
use Rattle.session.specs.Works.{call_of, reply_of, Working}

module _ {R Q : Type 0} (result : R → Rule) (qs : Q → Type 0) (pairs : Q → List (Option Figure)) (s : Session R Q) where
  pub working_none : (as' : List Answer) → as' ≡ [] → Working result qs pairs s [] as' s
  working_none as' e past led = (subst (λ (l : List Answer). Rights (task_of s) (result s.base.rule) past [] (map reply_of l)) (sym e) tt, led)

  pub working_more : (u t : Session R Q) (cs ds : List CallValue) (bs es : List Answer) (c : CallValue) (b : Answer) → u.base ≡ s.base → ds ≡ cs ++ (c ∷ []) → es ≡ bs ++ (b ∷ []) → Working result qs pairs s cs bs u → Goes result qs pairs u (call_of c) (reply_of b) t → Working result qs pairs s ds es t
  working_more u t cs ds bs es c b same e f w go past led =
      let p = task_of s in
      let rule = result s.base.rule in
      let was = w past led in
      let q = ended p past (map call_of cs) in
      let r : Right p rule q (call_of c) (reply_of b) × Led result qs pairs (next p q (call_of c)) t =
      subst (λ (v : Base R). Right (problem v.task) (result v.rule) q (call_of c) (reply_of b) × Led result qs pairs (next (problem v.task) q (call_of c)) t) same (go q was.1) in
      let calls : map call_of ds ≡ map call_of cs ++ (call_of c ∷ []) = ap (map call_of) e ∙ map_push call_of cs c in
      let replies : map reply_of es ≡ map reply_of bs ++ (reply_of b ∷ []) = ap (map reply_of) f ∙ map_push reply_of bs b in (
        subst (λ (l : List Call). Rights p rule past l (map reply_of es)) (sym calls)
            (subst (λ (l : List Reply). Rights p rule past (map call_of cs ++ (call_of c ∷ [])) l) (sym replies) (rights_push p rule past (map call_of cs) (map reply_of bs) (call_of c) (reply_of b) was.0 r.0)),
        subst (λ (l : List Call). Led result qs pairs (ended p past l) t) (sym calls)
            (subst (λ (z : Past). Led result qs pairs z t) (sym (ended_push p rule past (map call_of cs) (call_of c))) r.1),
      )

  -- a call that needs no docket
  pub plain : (t : Session R Q) (k : CallValue) (b : Answer) (z : Reply) (rows : ℕ) (dockets : List (Vec DocketRow Global)) → weight k ≡ 0 → reply_of b ≡ z → Goes result qs pairs s (call_of k) z t → (n : ℕ) → Stocked (weight k + n) rows dockets → Goes result qs pairs s (call_of k) (reply_of b) t × Stocked n rows dockets
  plain t k b z rows dockets none e go n st =
      (subst (λ (y : Reply). Goes result qs pairs s (call_of k) y t) (sym e) go, subst (λ m. Stocked m rows dockets) (omega (arith, none)) st)

pub entering_base : {R Q : Type 0} (s t : Session R Q) (f : ℕ) (r : Result Bool SessionFault) → Entering s t f r → t.base ≡ s.base
entering_base s t f (Ok true) (known, was, m) = m.base
entering_base s t f (Ok false) (known, was, e) = ap (λ v. v.base) e
entering_base s t f (Err x) (far, why, e) = ap (λ v. v.base) e

pub striking_base : {R Q : Type 0} (s t : Session R Q) (f : ℕ) (r : Result Bool SessionFault) → Striking s t f r → t.base ≡ s.base
striking_base s t f (Ok true) (known, was, m) = m.base
striking_base s t f (Ok false) (known, was, e) = ap (λ v. v.base) e
striking_base s t f (Err x) (far, why, e) = ap (λ v. v.base) e
