-- The calls of the source give light values.
use Rattle.std.proofs.Common.{◌≡◌, ℕ, zero, suc, arith, Option, Some, None, List, [], ◌∷◌, sym, ◌∙◌}
use Rattle.std.specs.Prelude.{slice_get}
use Rattle.std.specs.FinMap as map
use Rattle.py_tree.specs.PlainStatements.{stmts_of}
use Rattle.py_tree.specs.PlainProgram.{PlainMethod}
use Rattle.py_tree.specs.ClassRules.{body_of, params_of}
use Rattle.sf_value.specs.Keys.{Key}
use Rattle.sf_value.specs.Weight.{weight_of}
use Rattle.sf_value.specs.declared.Failure.{Failure}
use Rattle.sf_value.specs.declared.value.Value.{Value}
use Rattle.sf_value.specs.declared.value.Value.TheVariants as value
use Rattle.sf_value.proofs.Weights.{weight-Str, weight-Entity}
use Rattle.sf_value.proofs.Variants.{by_variants}
use Rattle.program_meaning.specs.declared.vars.Var.{Var}
use Rattle.program_meaning.specs.ClassTables.{Source, methods_of, key_param_of}
use Rattle.program_meaning.specs.World.{World, Own, Calls, Gives, Got, Fell, Ends, Goes, Returns, Breaks, Continues, Fails, step, with_given, next, next_turn, caught, result_of, reading, value_at}
use Rattle.program_meaning.specs.Operations.{text_of}
use Rattle.program_meaning.specs.Evaluation.{Site, entity}
use Rattle.program_meaning.specs.Execution.{stepping, value_or_none, act_all}
use Rattle.program_meaning.specs.Calls.{run_body, bound, calls_at, calls_within, enter, create, made, made_record, if_there, new_key, in_state}
use Rattle.program_meaning.specs.LightValues.{IsLight, AreLight, no_value, one_more, GivesLight, CallsGiveLight, CallsAreLight}
use Rattle.program_meaning.proofs.LightOperations.{nil_light}
use Rattle.program_meaning.proofs.LightExpressions.{value_light}
use Rattle.program_meaning.proofs.Traversal.{PartsKeep, acts_keep}

-- what is returned is light
abbrev EndsLight : {W : Type 0} → Ends W → Type 0
EndsLight (Goes vars w n) = Unit {0}
EndsLight (Returns v w n) = IsLight v
EndsLight (Breaks vars w n) = Unit {0}
EndsLight (Continues vars w n) = Unit {0}
EndsLight (Fails f vars w n) = Unit {0}

module _ {W : Type 0} where
  record AnyGives (A : Type 0) (g : W → ℕ → Gives W A) : Type 0 where
    any : Unit {0}

  record AlwaysLight (e : W → ℕ → Ends W) : Type 0 where
    always : (w : W) (n : ℕ) → EndsLight (e w n)

  returned_light : (vars : List Var) (g : Gives W Value) → GivesLight g → EndsLight (with_given vars g (λ v w n. Returns v w n))
  returned_light vars (Got v w n) l = l
  returned_light vars (Fell f w n) l = tt

  step_light : (vars : List Var) (e : W → ℕ → Ends W) → AlwaysLight e → (w : W) (n : ℕ) → EndsLight (stepping vars w n (λ n. e w n))
  step_light vars e l w zero = tt
  step_light vars e l w (suc n) = l.always w n

  uses_light : {A : Type 0} (vars : List Var) (g : Gives W A) (f : A → W → ℕ → Ends W) → ((x : A) → AlwaysLight (f x)) → EndsLight (with_given vars g f)
  uses_light vars (Got x w n) f l = (l x).always w n
  uses_light vars (Fell c w n) f l = tt

  next_light : (e : Ends W) (f : List Var → W → ℕ → Ends W) → EndsLight e → ((vars : List Var) → AlwaysLight (f vars)) → EndsLight (next e f)
  next_light (Goes vars w n) f l later = (later vars).always w n
  next_light (Returns v w n) f l later = l
  next_light (Breaks vars w n) f l later = tt
  next_light (Continues vars w n) f l later = tt
  next_light (Fails c vars w n) f l later = tt

  turn_light : (e : Ends W) (f : List Var → W → ℕ → Ends W) → EndsLight e → ((vars : List Var) → AlwaysLight (f vars)) → EndsLight (next_turn e f)
  turn_light (Goes vars w n) f l later = (later vars).always w n
  turn_light (Returns v w n) f l later = l
  turn_light (Breaks vars w n) f l later = tt
  turn_light (Continues vars w n) f l later = (later vars).always w n
  turn_light (Fails c vars w n) f l later = tt

  caught_light : (e : Ends W) (f : Failure → List Var → W → ℕ → Ends W) → EndsLight e → ((c : Failure) (vars : List Var) → AlwaysLight (f c vars)) → EndsLight (caught f e)
  caught_light (Goes vars w n) f l later = tt
  caught_light (Returns v w n) f l later = l
  caught_light (Breaks vars w n) f l later = tt
  caught_light (Continues vars w n) f l later = tt
  caught_light (Fails c vars w n) f l later = (later c vars).always w n

  result_light : (e : Ends W) → EndsLight e → GivesLight (result_of e)
  result_light (Goes vars w n) l = nil_light
  result_light (Returns v w n) l = l
  result_light (Breaks vars w n) l = nil_light
  result_light (Continues vars w n) l = nil_light
  result_light (Fails c vars w n) l = tt

  module _ (s : Site W) (calls : CallsGiveLight s.calls) where
    returns_keep_light : PartsKeep AnyGives AlwaysLight s
    returns_keep_light = record {
      gives = λ x. record { any = tt };
      falls = λ f. record { any = tt };
      follows = λ g f first rest. record { any = tt };
      reads = λ f. record { any = tt };
      calls = λ at method args. record { any = tt };
      makes = λ class args. record { any = tt };
      goes = λ vars. record { always = λ w n. tt };
      returns = λ e vars any. record { always = λ w n. returned_light vars (value_or_none s e vars w n) (value_light s calls e vars w n) };
      breaks = λ vars. record { always = λ w n. tt };
      continues = λ vars. record { always = λ w n. tt };
      fails = λ f vars. record { always = λ w n. tt };
      writes = λ vars f. record { always = λ w n. tt };
      steps = λ vars e l. record { always = step_light vars e l };
      enough = λ e l. record { always = λ w n. (l (suc n)).always w n };
      uses = λ vars g f any l. record { always = λ w n. uses_light vars (g w n) f l };
      on = λ e f first rest. record { always = λ w n. next_light (e w n) f (first.always w n) rest };
      again = λ e f first rest. record { always = λ w n. turn_light (e w n) f (first.always w n) rest };
      catches = λ e f first rest. record { always = λ w n. caught_light (e w n) f (first.always w n) rest };
      results = λ e l. record { any = tt };
    }

    pub body_light : (method : Option PlainMethod) (args : List Value) (w : W) (n : ℕ) → GivesLight (run_body s method args w n)
    unfolding run_body
    body_light method args w n =
        result_light (act_all s (stmts_of (body_of method)) (bound (params_of method) args) w n)
        ((acts_keep AnyGives AlwaysLight s returns_keep_light (stmts_of (body_of method)) (bound (params_of method) args)).always w n)

  stepped_light : (n : ℕ) (g : Gives W Value) (f : ℕ → Gives W Value) → GivesLight g → ((n : ℕ) → GivesLight (f n)) → GivesLight (step n g f)
  stepped_light zero g f l later = l
  stepped_light (suc n) g f l later = later n

-- Creations

value_at_light : (args : List Value) (o : Option ℕ) → AreLight args → IsLight (value_at args o)
value_at_light args None all = nil_light
value_at_light [] (Some i) no_value = nil_light
value_at_light (v ∷ args) (Some zero) (one_more l all) = l
value_at_light (v ∷ args) (Some (suc i)) (one_more l all) = value_at_light args (Some i) all

-- an entity weighs what the text of its key does
key_weighs : (class : ℕ) (text : List ℕ) → weight_of (entity (class, text)) ≡ weight_of (value.Str text)
key_weighs class text = weight-Entity (record { class = class; key = text }) ∙ sym (weight-Str text)

pub key_light : (class : ℕ) (v : Value) → IsLight v → IsLight (entity (class, text_of v))
key_light class = by_variants (λ v. IsLight v → IsLight (entity (class, text_of v))) (λ z l. empty) (λ b l. empty) (λ text l. text_light text l) (λ l. empty) (λ vs l. empty) (λ at l. empty)
  where
    empty : IsLight (entity (class, []))
    empty = let same = key_weighs class [] in let few = weight-Str [] in record { most = omega (arith, same, few) }

    text_light : (text : List ℕ) → IsLight (value.Str text) → IsLight (entity (class, text))
    text_light text l = let same = key_weighs class text in let most = l.most in record { most = omega (arith, same, most) }

made_light : (at : Key) (w : World) (g : Gives (List Value) Value) → IsLight (entity at) → GivesLight (made at w g)
made_light at w (Got v fields n) l = l
made_light at w (Fell f fields n) l = tt

there_light : (o : Option (List Value)) (g h : Gives World Value) → GivesLight g → GivesLight h → GivesLight (if_there o g h)
there_light None g h first second = first
there_light (Some fields) g h first second = second

create_light : (src : Source) (at : Key) (args : List Value) (w : World) (n : ℕ) → IsLight (entity at) → GivesLight (create src at args w n)
unfolding create
create_light src at args w n l = there_light (map.get w.state at) _ _ (made_light at (reading w at) (made_record src at args n) l) tt

-- Calls

enter_light : (src : Source) (calls : Calls World) → CallsGiveLight calls → (at : Key) (method : ℕ) (args : List Value) (w : World) (n : ℕ) → GivesLight (enter src calls at method args w n)
unfolding enter
enter_light src calls l at method args w n = there_light (map.get w.state at) _ _ tt (body_light (in_state src calls at) l (slice_get (methods_of src at.0) method) args (reading w at) n)

pub calls_are_light : CallsAreLight
unfolding calls_at
calls_are_light src zero = record {
  call = λ at method args w n. stepped_light n _ _ tt (λ n. tt);
  make = λ class args w n all. stepped_light n _ _ tt (λ n. tt);
}
calls_are_light src (suc d) = record {
  call = λ at method args w n. stepped_light n _ _ tt (λ n. enter_light src (calls_at src d) (calls_are_light src d) at method args w n);
  make = λ class args w n all. stepped_light n _ _ tt (λ n. create_light src (new_key src class args) args w n (key_light class (value_at args (key_param_of src class)) (value_at_light args (key_param_of src class) all)));
}

pub own_calls_are_light : {W : Type 0} (own : Own W) (src : Source) (me : Key) (d : ℕ) → CallsGiveLight (calls_within own src me d)
unfolding calls_within
own_calls_are_light own src me zero = record {
  call = λ at method args w n. stepped_light n _ _ tt (λ n. tt);
  make = λ class args w n all. tt;
}
own_calls_are_light own src me (suc d) = record {
  call = λ at method args w n. stepped_light n _ _ tt (λ n.
      body_light (record { src = src; own = own; calls = calls_within own src me d; me = me }) (own_calls_are_light own src me d) (slice_get (methods_of src me.0) method) args w n);
  make = λ class args w n all. tt;
}
