-- What a load holds, as the frames that it has taken.
use Rattle.std.proofs.Common.{◌≡◌, ◌≤◌, true, eqb, [], ◌∷◌, ◌++◌, map, length, None, vec_items, vec_len, sym, refl, ap, ◌∙◌, subst, arith}
use Rattle.std.proofs.lemmas.List.{length-map, nil_from_length}
use Rattle.std.proofs.lemmas.Bool.{and_from, eq-eqb, eqb-true}
use Rattle.textspec.specs.declared.due.Due.{Due}
use Rattle.textspec.specs.declared.due.Due.TheVariants.{Head, Nothing}
use Rattle.strips.specs.Lists.{listed}
use Rattle.strips.specs.Actions.{action_of}
use Rattle.textspec.specs.Frames.{frames_of, head_frame, action_frame, goal_frame, start_frame, end_frame}
use Rattle.tasktext.specs.declared.load.Load.{Load}
use Rattle.textspec.specs.Order.{due_after}
use Rattle.tasktext.specs.Stage.{in_order, before}
use Rattle.tasktext.specs.Loads.{acts_of, taken}
use Rattle.strips.specs.Tasks.{flaw}
use Rattle.tasktext.proofs.Flawless.{flawless}
use Rattle.tasktext.proofs.Stages.{four, count, counted, due_of, few}

module _ (l : Load) where
  pub size : length (acts_of l) ≡ vec_len l.actions
  size = length-map (vec_items l.actions) action_of ∙ sym l.actions.ok.0

  pub ordered : in_order l.due l.facts l.wanted (length (acts_of l)) ≡ true
  ordered = ap (in_order l.due l.facts l.wanted) size ∙ l.order

  pub due_is : l.due ≡ due_after (taken l)
  due_is = due_of l.facts l.wanted (acts_of l) (listed l.goal) (listed l.start) l.due ordered

  pub number : (due : Due) → l.due ≡ due → length (taken l) ≡ count due (vec_len l.actions)
  number due e = counted l.facts l.wanted (acts_of l) (listed l.goal) (listed l.start) l.due ∙ ap (count l.due) size ∙ ap (λ d. count d (vec_len l.actions)) e

  pub small : vec_len l.actions ≤ 512
  small = few l.due l.facts l.wanted (vec_len l.actions) l.order

  pub whole : l.due ≡ Nothing → taken l ≡ frames_of (record { facts = l.facts; actions = acts_of l; goal = listed l.goal; start = listed l.start })
  whole e =
      let h = subst (λ d. in_order d l.facts l.wanted (vec_len l.actions) ≡ true) e l.order in
      let q = four l.facts l.facts l.wanted (eqb (vec_len l.actions) l.wanted) (and_from _ _ (eq-eqb l.facts l.facts refl) h) in
      let w : l.wanted ≡ length (acts_of l) = sym (eqb-true _ _ q.3) ∙ sym size in
      ap (λ d. before d l.facts l.wanted (acts_of l) (listed l.goal) (listed l.start)) e
      ∙ ap (λ n. head_frame l.facts n ∷ (map action_frame (acts_of l) ++ goal_frame (listed l.goal) ∷ start_frame (listed l.start) ∷ end_frame ∷ [])) w

  pub none_yet : l.due ≡ Head → vec_items l.actions ≡ []
  none_yet e =
      let h = subst (λ d. in_order d l.facts l.wanted (vec_len l.actions) ≡ true) e l.order in
      nil_from_length (vec_items l.actions) (sym l.actions.ok.0 ∙ eqb-true _ _ h)

  pub flawless_load : l.due ≡ Nothing → flaw l.facts (vec_items l.actions) (listed l.goal) (listed l.start) ≡ None
  flawless_load e =
      let h = subst (λ d. in_order d l.facts l.wanted (vec_len l.actions) ≡ true) e l.order in
      let q = four l.facts l.facts l.wanted (eqb (vec_len l.actions) l.wanted) (and_from _ _ (eq-eqb l.facts l.facts refl) h) in
      flawless l.facts (vec_items l.actions) (listed l.goal) (listed l.start) q.1 (omega (arith, small, l.actions.ok.0)) l.fit l.goal_fit l.start_fit
