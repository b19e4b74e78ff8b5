use Rattle.std.proofs.Common.{◌≡◌, ℕ, ◌+◌, ◌*◌, length, vec_items, vec_len, sym, refl, subst, arith, rules}
use Rattle.model.specs.Strips.{items}
use Rattle.session.specs.declared.call.Call.{Call as CallValue}
use Rattle.session.specs.declared.call.Call.TheVariants as call
use Rattle.session.specs.Sessions.{task_of}
use Rattle.session.specs.Laws.{told_of, shown_of, Goes}
use Rattle.session.specs.Rooms.{weight, Stocked}
use Rattle.session.specs.Works.{call_of, reply_of}
use Rattle.session.proofs.Rooms.{stocked_less}
use Rattle.session.proofs.Working.{plain, entering_base, striking_base}
use Rattle.session.proofs.session.Session.ask.Goals as goal

pub returns-in-Enter : goal.returns-in-Enter
returns-in-Enter g c =
    let s = c.args.self.now in
    let t = c.enter.new.self in
    let rows = 2 * items (task_of s) in
    let ds = vec_items c.args.dockets.now in
    record {
      base = entering_base s t _ c.enter.result c.enter.ensures.answer;
      keeps = c.enter.ensures.keeps;
      law =
          subst (λ (k : CallValue). (n : ℕ) → Stocked (weight k + n) rows ds → Goes g.R.CostRule.rule g.Q.Queue.sound g.Q.Queue.pairs s (call_of k) (reply_of c.map_or_else.result) t × Stocked n rows ds) (sym c.in-Enter.is)
          (plain g.R.CostRule.rule g.Q.Queue.sound g.Q.Queue.pairs s t (call.Enter c.in-Enter.fact) c.map_or_else.result (told_of c.enter.result) rows ds refl (search rules) c.enter.ensures.law);
    }

pub returns-in-Strike : goal.returns-in-Strike
returns-in-Strike g c =
    let s = c.args.self.now in
    let t = c.strike.new.self in
    let rows = 2 * items (task_of s) in
    let ds = vec_items c.args.dockets.now in
    record {
      base = striking_base s t _ c.strike.result c.strike.ensures.answer;
      keeps = c.strike.ensures.keeps;
      law =
          subst (λ (k : CallValue). (n : ℕ) → Stocked (weight k + n) rows ds → Goes g.R.CostRule.rule g.Q.Queue.sound g.Q.Queue.pairs s (call_of k) (reply_of c.map_or_else-in-Strike.result) t × Stocked n rows ds) (sym c.in-Strike.is)
          (plain g.R.CostRule.rule g.Q.Queue.sound g.Q.Queue.pairs s t (call.Strike c.in-Strike.fact) c.map_or_else-in-Strike.result (told_of c.strike.result) rows ds refl (search rules) c.strike.ensures.law);
    }

pub returns-in-Figure : goal.returns-in-Figure
returns-in-Figure g c =
    let s = c.args.self.now in
    let t = c.args.self.now in
    let rows = 2 * items (task_of s) in
    let ds = vec_items c.args.dockets.now in
    record {
      base = refl;
      keeps = λ sd. sd;
      law =
          subst (λ (k : CallValue). (n : ℕ) → Stocked (weight k + n) rows ds → Goes g.R.CostRule.rule g.Q.Queue.sound g.Q.Queue.pairs s (call_of k) (reply_of c.map_or_else-in-Figure.result) t × Stocked n rows ds) (sym c.in-Figure.is)
          (plain g.R.CostRule.rule g.Q.Queue.sound g.Q.Queue.pairs s t (call.Figure c.in-Figure.item) c.map_or_else-in-Figure.result (shown_of c.figure.result) rows ds refl (search rules) c.figure.ensures.law);
    }

pub returns-in-Goal : goal.returns-in-Goal
returns-in-Goal g c =
    let s = c.args.self.now in
    let t = c.args.self.now in
    let rows = 2 * items (task_of s) in
    let ds = vec_items c.args.dockets.now in
    record {
      base = refl;
      keeps = λ sd. sd;
      law =
          subst (λ (k : CallValue). (n : ℕ) → Stocked (weight k + n) rows ds → Goes g.R.CostRule.rule g.Q.Queue.sound g.Q.Queue.pairs s (call_of k) (reply_of c.map_or_else-in-Goal.result) t × Stocked n rows ds) (sym c.in-Goal.is)
          (plain g.R.CostRule.rule g.Q.Queue.sound g.Q.Queue.pairs s t (call.Goal) c.map_or_else-in-Goal.result (shown_of c.goal_figure.result) rows ds refl (search rules) c.goal_figure.ensures.law);
    }

pub returns-in-Some : goal.returns-in-Some
returns-in-Some g c =
    let s = c.args.self.now in
    let t = c.settle_on.new.self in
    let rows = 2 * items (task_of s) in
    let ds = vec_items c.args.dockets.now in
    let es = vec_items c.pop.new.self in
    record {
      base = c.settle_on.ensures.base;
      keeps = c.settle_on.ensures.keeps;
      law =
          subst (λ (k : CallValue). (n : ℕ) → Stocked (weight k + n) rows ds → Goes g.R.CostRule.rule g.Q.Queue.sound g.Q.Queue.pairs s (call_of k) (reply_of c.settle_on.result) t × Stocked n rows es) (sym c.in-Settle.is)
          (λ n st.
          let r = stocked_less n rows ds es c.in-Some.docket (subst (λ m. Stocked m rows ds) (omega arith) st) c.in-Some.ensures.items in
          (c.settle_on.ensures.law r.1, r.0));
    }

pub returns-in-None : goal.returns-in-None
returns-in-None g c =
    let s = c.args.self.now in
    let rows = 2 * items (task_of s) in
    let ds = c.args.dockets.now in
    let none : vec_len ds ≡ 0 = c.in-None.ensures.cases.0 in
    record {
      base = refl;
      keeps = λ sd. sd;
      law = λ n st. absurd (let many : length (vec_items ds) ≡ 1 + n = subst (λ (k : CallValue). length (vec_items ds) ≡ weight k + n) c.in-Settle.is st.many in omega (arith, many, none, ds.ok.0));
    }
