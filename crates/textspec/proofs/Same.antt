-- Frames state one problem.
use Rattle.std.proofs.Common.{◌≡◌, ℕ, ◌/◌, ◌%◌, List, [], ◌∷◌, ◌++◌, map, length, refl, arith}
use Rattle.model.specs.Strips.{Action as Act, Problem}
use Rattle.textspec.specs.Frames.{action_frame, goal_frame, start_frame, end_frame, frames_of}

-- lists in a row, the first of equal length, are equal part by part
append_same : (xs xs' ys ys' : List ℕ) → length xs ≡ length xs' → xs ++ ys ≡ xs' ++ ys' → (xs ≡ xs') × (ys ≡ ys')
append_same [] [] ys ys' l e = (refl, e)
append_same [] (x ∷ xs') ys ys' l e = absurd (omega arith)
append_same (x ∷ xs) [] ys ys' l e = absurd (omega arith)
append_same (x ∷ xs) (x' ∷ xs') ys ys' l e =
    let h : x ≡ x' = cc in
    let t : xs ++ ys ≡ xs' ++ ys' = cc in
    let r = append_same xs xs' ys ys' (omega arith) t in
    let q = r.0 in
    (cc, r.1)

act_same : (a b : Act) → action_frame a ≡ action_frame b → a ≡ b
act_same a b e =
    let l1 : length a.pre ≡ length b.pre = cc in
    let l2 : length a.add ≡ length b.add = cc in
    let t : a.pre ++ (a.add ++ a.del) ≡ b.pre ++ (b.add ++ b.del) = cc in
    let r = append_same a.pre b.pre _ _ l1 t in
    let s = append_same a.add b.add _ _ l2 r.1 in
    let x = r.0 in let y = s.0 in let z = s.1 in
    let same : ◌≡◌ {A = Act} (record { pre = a.pre; add = a.add; del = a.del }) (record { pre = b.pre; add = b.add; del = b.del }) = cc in
    same

acts_same : (xs ys : List Act) (r s : List (List ℕ)) → length xs ≡ length ys → map action_frame xs ++ r ≡ map action_frame ys ++ s → (xs ≡ ys) × (r ≡ s)
acts_same [] [] r s l e = (refl, e)
acts_same [] (b ∷ ys) r s l e = absurd (omega arith)
acts_same (a ∷ xs) [] r s l e = absurd (omega arith)
acts_same (a ∷ xs) (b ∷ ys) r s l e =
    let h : action_frame a ≡ action_frame b = cc in
    let t : map action_frame xs ++ r ≡ map action_frame ys ++ s = cc in
    let q = act_same a b h in
    let o = acts_same xs ys r s (omega arith) t in
    let u = o.0 in
    (cc, o.1)

pub problem_same : (p q : Problem) → frames_of p ≡ frames_of q → p ≡ q
problem_same p q e =
    let v = length p.actions in
    let w = length q.actions in
    let f : p.facts ≡ q.facts = cc in
    let hi : v / 256 ≡ w / 256 = cc in
    let lo : v % 256 ≡ w % 256 = cc in
    let l : v ≡ w = omega arith in
    let t : map action_frame p.actions ++ goal_frame p.goal ∷ start_frame p.start ∷ end_frame ∷ [] ≡ map action_frame q.actions ++ goal_frame q.goal ∷ start_frame q.start ∷ end_frame ∷ [] = cc in
    let o = acts_same p.actions q.actions _ _ l t in
    let a = o.0 in
    let r = o.1 in
    let g : p.goal ≡ q.goal = cc in
    let s : p.start ≡ q.start = cc in
    let same : ◌≡◌ {A = Problem} (record { facts = p.facts; actions = p.actions; goal = p.goal; start = p.start }) (record { facts = q.facts; actions = q.actions; goal = q.goal; start = q.start }) = cc in
    same
