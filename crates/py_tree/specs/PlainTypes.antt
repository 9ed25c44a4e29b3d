-- Types as plain trees, without pointers.
use Rattle.std.specs.Prelude.{ℕ}
use Rattle.py_tree.specs.declared.names.Place.{Place}
use Rattle.py_tree.specs.declared.ty.Ty.{Ty}
use Rattle.py_tree.specs.declared.ty.Ty as t
use Rattle.py_tree.specs.declared.ty.WrittenTy.{WrittenTy}
use Rattle.py_tree.specs.declared.ty.WrittenKind.{WrittenKind}
use Rattle.py_tree.specs.declared.ty.WrittenKind as w

-- a type
pub data PlainTy : Type 0 where
  TInt : PlainTy
  TBool : PlainTy
  TStr : PlainTy
  TNil : PlainTy
  TList : (element : PlainTy) → PlainTy
  TOptional : (inner : PlainTy) → PlainTy
  TEntity : (class : ℕ) → PlainTy

unfoldable pub plain_ty : Ty → PlainTy
plain_ty t.Int = TInt
plain_ty t.Bool = TBool
plain_ty t.Str = TStr
plain_ty t.Nil = TNil
plain_ty (t.List' p a) = TList (plain_ty a)
plain_ty (t.Optional' p a) = TOptional (plain_ty a)
plain_ty (t.Entity c) = TEntity c.0

-- a type as it is written: each part has the place of its first token
pub data PlainWritten : Type 0 where
  WInt : (at : Place) → PlainWritten
  WBool : (at : Place) → PlainWritten
  WStr : (at : Place) → PlainWritten
  WNil : (at : Place) → PlainWritten
  WList : (at : Place) → (element : PlainWritten) → PlainWritten
  WOptional : (at : Place) → (inner : PlainWritten) → PlainWritten
  WEntity : (at : Place) → (class : ℕ) → PlainWritten

unfoldable pub plain_written_kind : WrittenKind → Place → PlainWritten
plain_written_kind w.Int at = WInt at
plain_written_kind w.Bool at = WBool at
plain_written_kind w.Str at = WStr at
plain_written_kind w.Nil at = WNil at
plain_written_kind (w.List' p a k) at = WList at (plain_written_kind k a)
plain_written_kind (w.Optional' p a k) at = WOptional at (plain_written_kind k a)
plain_written_kind (w.Entity c) at = WEntity at c.0

abbrev pub plain_written : WrittenTy → PlainWritten
plain_written ty = plain_written_kind ty.kind ty.place

-- the type that is written, without its places
abbrev pub type_of : PlainWritten → PlainTy
type_of (WInt at) = TInt
type_of (WBool at) = TBool
type_of (WStr at) = TStr
type_of (WNil at) = TNil
type_of (WList at element) = TList (type_of element)
type_of (WOptional at inner) = TOptional (type_of inner)
type_of (WEntity at class) = TEntity class
