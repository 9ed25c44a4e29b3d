-- How a trailer of the interpreter is seen.
use Rattle.py_tree.specs.PlainExpressions.{plain_expr, plain_exprs, exprs_of}
use Rattle.source_meaning.specs.declared.trailers.Trailer.{Trailer}
use Rattle.source_meaning.specs.declared.trailers.Trailer.TheVariants as trailer
use Rattle.program_meaning.specs.Trailers.{PlainTrailer, Calling, Indexing}

abbrev pub plain_trailer : Trailer → PlainTrailer
plain_trailer (trailer.Call method args) = Calling method.0 (exprs_of (plain_exprs args.now))
plain_trailer (trailer.Index index) = Indexing (plain_expr index.now)
