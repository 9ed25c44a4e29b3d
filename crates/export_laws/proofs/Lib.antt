mod ShortReplies
mod ExportedLines
mod SerialExports
